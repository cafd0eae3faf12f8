-- What the inverse promises.
use Rattle.std.specs.Prelude.{◌≡◌, ◌⊎◌, List, ℕ, length, Ok, Err}
use Rattle.gf2.specs.Inverse.{Inverse}
use Rattle.words.specs.Words.{words_of, rows_of}
use Rattle.refusals.specs.declared.Refusal.TheVariants.{NoInverse}
use Rattle.refusals.specs.Outcome.{Outcome, Promised}
use Rattle.refusals.specs.Checks.{inverse_checks}
use Rattle.beside.specs.Beside.{BesideCleared}

-- the inverse of A stands in the result, n rows of as many columns
abbrev pub Given : ℕ → List ℕ → Outcome → List ℕ → Type 0
Given n A r result' = (r ≡ Ok tt) × Inverse n A (rows_of (words_of n) n result')

-- A has no inverse, which is number 9, and the result is as it was
abbrev pub NoneExists : ℕ → List ℕ → Outcome → List ℕ → List ℕ → Type 0
NoneExists n A r result result' = (r ≡ Err NoInverse) × ((X : List ℕ) → Inverse n A X → ⊥) × (result' ≡ result)

-- past the checks: one or the other
abbrev pub Inverted : ℕ → List ℕ → List ℕ → Outcome → List ℕ → Type 0
Inverted n m result r result' = Given n (rows_of (words_of n) n m) r result' ⊎ NoneExists n (rows_of (words_of n) n m) r result result'

-- by the table: refused with nothing changed; or answered, and the room cleared
abbrev pub InversionPromised : ℕ → ℕ → ℕ → List ℕ → List ℕ → List ℕ → Outcome → List ℕ → List ℕ → Type 0
InversionPromised rows columns k m result room r result' room' =
    Promised (inverse_checks rows columns k m (length result) (length room))
    (λ x. (r ≡ Err x) × (result' ≡ result) × (room' ≡ room))
    (Inverted rows m result r result' × BesideCleared rows rows k room room')
