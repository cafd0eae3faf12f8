-- A matrix with an identity on its right, reduced in one room.
use Rattle.std.specs.Prelude.{◌≡◌, Result, List, [], ◌∷◌, ◌++◌, ℕ, ◌+◌, ◌*◌, ◌^◌, ◌≤◌, length, replicate, drop}
use Rattle.gf2.specs.Reduced.{ReducedForm}
use Rattle.gf2.specs.Inverse.{adjoin}
use Rattle.words.specs.Words.{words_of, rows_of, Clean, zeroed}
use Rattle.refusals.specs.declared.Unfit.{Unfit}
use Rattle.refusals.specs.Outcome.{Outcome, Taken, first}
use Rattle.refusals.specs.Checks.{size_checks, too_wide, bad_k, short_room, dirty_padding, Sized, Window}

-- rows of that many columns at the start of m, with clean padding; a room for them beside an identity, and for 2 ^ k rows more
pub record FitsBeside (rows columns k : ℕ) (m : List ℕ) (room : ℕ) : Type 0 where
  pub sized : Sized 512 rows columns
  pub wide : columns + rows ≤ 1024
  pub window : Window k
  pub roomy : (rows + 2 ^ k) * words_of (columns + rows) ≤ room
  pub held : rows * words_of columns ≤ length m
  pub clean : Clean rows columns m

-- the checks of these shapes
abbrev pub beside_order : ℕ → ℕ → ℕ → List ℕ → ℕ → List Outcome
beside_order rows columns k m room =
    size_checks rows columns ∷ too_wide columns rows ∷ bad_k k ∷ short_room rows k (columns + rows) room ∷ dirty_padding rows columns m ∷ []

abbrev pub beside_checks : ℕ → ℕ → ℕ → List ℕ → ℕ → Outcome
beside_checks rows columns k m room = first (beside_order rows columns k m room)

-- the room starts with the reduced form of the matrix beside an identity, the table's words behind it are zero, and further ones as they were
pub record Beside (rows columns k : ℕ) (m room room' : List ℕ) : Type 0 where
  pub form : ReducedForm (adjoin columns (rows_of (words_of columns) rows m)) (rows_of (words_of (columns + rows)) rows room')
  pub behind : drop (rows * words_of (columns + rows)) room' ≡ replicate (2 ^ k * words_of (columns + rows)) 0 ++ drop ((rows + 2 ^ k) * words_of (columns + rows)) room

abbrev pub BesideReduced : Result (Unit {0}) Unfit → ℕ → ℕ → ℕ → List ℕ → List ℕ → List ℕ → Type 0
BesideReduced r rows columns k m room room' = Taken r (FitsBeside rows columns k m (length room)) (λ _. Beside rows columns k m room room') (room' ≡ room)

-- the needed words of the room are zero, and all the rest is as it was
abbrev pub BesideCleared : ℕ → ℕ → ℕ → List ℕ → List ℕ → Type 0
BesideCleared rows columns k room room' = room' ≡ zeroed 0 ((rows + 2 ^ k) * words_of (columns + rows)) room
