-- What the row view and the reduction promise.
use Rattle.std.specs.Prelude.{◌≡◌, refl, List, [], ℕ, ◌-◌, ◌*◌, ◌^◌, ◌≤◌, ◌<◌, length, replicate, Result, Ok, Err}
use Rattle.gf2.specs.Rows.{row, part}
use Rattle.gf2.specs.Reduced.{ReducedForm, rank, pivot_record}
use Rattle.gf2.specs.Additions.{windows, additions}
use Rattle.words.specs.Words.{words_of, rows_of, zeroed}
use Rattle.refusals.specs.declared.Refusal.{Refusal}
use Rattle.refusals.specs.Outcome.{Outcome, Promised}
use Rattle.refusals.specs.Checks.{too_many_rows, bad_columns, size_checks, wrong_length, not_below, view_checks, reduction_checks}
use Rattle.matrix.specs.declared.Answer.{Answer}

-- ---- the row view: row i's words, or the empty part

abbrev pub viewed : Outcome → ℕ → ℕ → List ℕ → List ℕ
viewed (Ok _) i w m = part (i * w) w m
viewed (Err r) i w m = []

abbrev pub row_view : ℕ → ℕ → ℕ → List ℕ → List ℕ
row_view rows columns i m = viewed (view_checks rows columns (length m) i) i (words_of columns) m

-- where that part begins, in words from the front of the buffer: at row i; the empty part at the front
abbrev pub viewed_from : Outcome → ℕ → ℕ → ℕ
viewed_from (Ok _) i w = i * w
viewed_from (Err r) i w = 0

abbrev pub row_place : ℕ → ℕ → ℕ → ℕ → ℕ
row_place rows columns i len = viewed_from (view_checks rows columns len i) i (words_of columns)

-- the second of two rows of 65 columns begins at word 2
pub second_place : row_place 2 65 1 4 ≡ 2
unfolding too_many_rows bad_columns size_checks wrong_length not_below
second_place = refl

-- ---- the answer of reduction and of solving

-- rank, counts and pivots are those of the reduced matrix; a reduction knows no blocks
abbrev pub reduced_answer : (List ℕ → ℕ) → List ℕ → Answer
reduced_answer counts N = record { rank = rank N; known = 0; additions = counts N; pivots = pivot_record 512 N }

-- the figures of an answer; beside a refusal: no rank, no totals, no pivots
abbrev pub figures : Result Answer Refusal → Answer
figures (Ok a) = a
figures (Err r) = record { rank = 0; known = 0; additions = 0; pivots = replicate 512 65535 }

-- what holds of the figures of every answer, refused or not: at most 2 ^ k - 1 table additions for each window; pivots that rise, below the columns, with 65,535 behind them
pub record WithinBounds (columns k : ℕ) (r : Answer) : Type 0 where
  pub few_additions : r.additions ≤ (2 ^ k - 1) * windows k columns
  pub rising : (i j : ℕ) → i < j → j < r.rank → row r.pivots i < row r.pivots j
  pub below : (i : ℕ) → i < r.rank → row r.pivots i < columns
  pub behind : (i : ℕ) → r.rank ≤ i → i < 512 → row r.pivots i ≡ 65535

-- ---- the reduction

-- the matrix has become its reduced form, and that is what the answer tells of; how the additions are counted is a function of it
pub record Reduction (counts : List ℕ → ℕ) (rows columns : ℕ) (m : List ℕ) (r : Result Answer Refusal) (m' : List ℕ) : Type 0 where
  pub reduced : ReducedForm (rows_of (words_of columns) rows m) (rows_of (words_of columns) rows m')
  pub answered : r ≡ Ok (reduced_answer counts (rows_of (words_of columns) rows m'))

-- the needed words of the work room are zero; and all the rest is as it was
abbrev pub TableCleared : ℕ → ℕ → List ℕ → List ℕ → Type 0
TableCleared columns k room room' = room' ≡ zeroed 0 (2 ^ k * words_of columns) room

-- by the table: refused with nothing changed; or reduced, and the room cleared
abbrev pub ReductionPromised : ℕ → ℕ → ℕ → List ℕ → List ℕ → Result Answer Refusal → List ℕ → List ℕ → Type 0
ReductionPromised rows columns k m room r m' room' =
    Promised (reduction_checks rows columns k m (length room))
    (λ x. (r ≡ Err x) × (m' ≡ m) × (room' ≡ room))
    (Reduction (additions k columns) rows columns m r m' × TableCleared columns k room room')
