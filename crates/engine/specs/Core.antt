-- What the core promises to the calls above it.
use Rattle.std.specs.Prelude.{◌≡◌, List, ◌++◌, ℕ, ◌+◌, ◌*◌, ◌^◌, ◌≤◌, length, replicate, drop, Result}
use Rattle.gf2.specs.Reduced.{ReducedForm, rank, pivot_record}
use Rattle.gf2.specs.Additions.{additions}
use Rattle.words.specs.Words.{words_of, rows_of, Clean, zeroed}
use Rattle.refusals.specs.declared.Unfit.{Unfit}
use Rattle.refusals.specs.Outcome.{Taken}
use Rattle.refusals.specs.Checks.{Sized, Window}
use Rattle.engine.specs.declared.Eliminated.{Eliminated}

-- the rows stand at the start of m, with no one past the last column, and the list has a place for the pivot of each
pub record Shape (rows columns list : ℕ) (m : List ℕ) : Type 0 where
  pub sized : Sized 1024 rows columns
  pub listed : rows ≤ list
  pub held : rows * words_of columns ≤ length m
  pub clean : Clean rows columns m

-- the room has a table's 2 ^ k rows, and `more` besides
pub record TableRoom (k columns more room : ℕ) : Type 0 where
  pub window : Window k
  pub roomy : (more + 2 ^ k) * words_of columns ≤ room

-- what the core takes
pub record Fits (rows columns k more room list : ℕ) (m : List ℕ) : Type 0 where
  pub shape : Shape rows columns list m
  pub table : TableRoom k columns more room

-- L has been reduced to N: the answer's rank and additions, and the list of pivots, are those of N
pub record ReducedTo (counts : List ℕ → ℕ) (L N : List ℕ) (r : Eliminated) (list : List ℕ) : Type 0 where
  pub form : ReducedForm L N
  pub rank_is : r.rank ≡ rank N
  pub additions_are : r.additions ≡ counts N
  pub pivots_are : list ≡ pivot_record (length list) N

-- matrix and table in two slices: then the matrix is reduced, the table's words are zero, and what lies past either is as it was
abbrev pub TwoSlices : Result Eliminated Unfit → ℕ → ℕ → ℕ → List ℕ → List ℕ → List ℕ → List ℕ → List ℕ → List ℕ → Type 0
TwoSlices r rows columns k m t list m' t' list' =
    Taken r (Fits rows columns k 0 (length t) (length list) m)
    (λ e. ReducedTo (additions k columns) (rows_of (words_of columns) rows m) (rows_of (words_of columns) rows m') e list'
    × (drop (rows * words_of columns) m' ≡ drop (rows * words_of columns) m) × (t' ≡ zeroed 0 (2 ^ k * words_of columns) t))
    ((m' ≡ m) × (t' ≡ t) × (list' ≡ list))

-- the table in the 2 ^ k rows behind the matrix
abbrev pub OneRoom : Result Eliminated Unfit → ℕ → ℕ → ℕ → List ℕ → List ℕ → List ℕ → List ℕ → Type 0
OneRoom r rows columns k m list m' list' =
    Taken r (Fits rows columns k rows (length m) (length list) m)
    (λ e. ReducedTo (additions k columns) (rows_of (words_of columns) rows m) (rows_of (words_of columns) rows m') e list'
    × (drop (rows * words_of columns) m' ≡ replicate (2 ^ k * words_of columns) 0 ++ drop ((rows + 2 ^ k) * words_of columns) m))
    ((m' ≡ m) × (list' ≡ list))
