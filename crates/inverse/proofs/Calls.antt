-- The inverse past its checks, by what is read off the reduced matrix beside an identity.
use mathlib.Core.Path.{◌≡◌, refl, sym, ap, ◌∙◌, subst}
use mathlib.Core.Logic.{inl, inr}
use mathlib.Core.Bool.{Bool, true, false}
use Rattle.std.specs.Prelude.{Result, Ok, Err}
use mathlib.Core.List.{List}
use Prim.Native.Nat.{ℕ, ◌+◌, ◌*◌, ◌^◌, min}
use native.Mathlib.Nat.{add-mul}
use native.Mathlib.Omega.{arith}
use lib.ListN.{length}
use Rattle.gf2.specs.Rows.{Matrix}
use Rattle.gf2.proofs.Inverse.{begins_true, right_half, inverse_exists}
use Rattle.words.specs.Words.{words_of, rows_of, zeroed}
use Rattle.words.proofs.Rows.{length_rows}
use Rattle.refusals.specs.declared.Refusal.TheVariants.{NoInverse}
use Rattle.refusals.specs.declared.Unfit.{Unfit}
use Rattle.refusals.specs.Outcome.{Outcome}
use Rattle.refusals.specs.Checks.{InversePasses}
use Rattle.beside.specs.Beside.{FitsBeside, Beside, BesideReduced, BesideCleared}
use Rattle.beside.proofs.Room.{room_reduced, room_clean, room_cleared}
use Rattle.readoff.specs.ReadOff.{Reading, Halves, Halved}
use Rattle.readoff.proofs.Clean.{half_rows}
use Rattle.inverse.specs.Calls.{Inverted}

-- what is read tells the answer
abbrev pub answer_for : Bool → Outcome
answer_for true = Ok tt
answer_for false = Err NoInverse

module _ (n k : ℕ) (m result room room₁ : List ℕ) (passes : InversePasses n n k m (length result) (length room)) (done : Result (Unit {0}) Unfit) (b : BesideReduced done n n k m room room₁)
    (l : length room₁ ≡ length room) where
  abbrev A : List ℕ
  A = rows_of (words_of n) n m

  abbrev N : List ℕ
  N = rows_of (words_of (n + n)) n room₁

  fits : FitsBeside n n k m (length room)
  fits = record {
    sized = passes.sized;
    wide = omega (arith, passes.sized.few);
    window = passes.window;
    roomy = passes.roomy;
    held = omega (arith, passes.exact);
    clean = passes.clean;
  }

  beside : Beside n n k m room room₁
  beside = room_reduced n n k m room room₁ fits done b

  square : Matrix n n A
  square = record { size = length_rows (words_of n) n m; narrow = passes.clean }

  halves : Halves n room₁ (length result)
  halves = record {
    matrix = record { wide = omega (arith, passes.sized.few); held = omega (arith, passes.roomy, add-mul n (2 ^ k) (words_of (n + n))) };
    fitting = passes.fitting;
  }

  -- so something is read
  pub is_read : (result' : List ℕ) (read : Reading) → Halved read n room₁ result result' → (exists : Bool) × (read ≡ Ok exists)
  is_read result' (Ok exists) h = (exists, refl)
  is_read result' (Err u) h = absurd (h.0 halves)

  pub inverted : (result' : List ℕ) (exists : Bool) → Halved (Ok exists) n room₁ result result' → Inverted n m result (answer_for exists) result'
  inverted result' true h =
      let read = half_rows n room₁ result' (room_clean n n k m room room₁ passes.clean beside) h.1 in
      inl (refl, rw read (right_half n A N square beside.form ((begins_true n N).0 h.0.1)))
  inverted result' false h = inr (refl, (λ X i. h.0.1 ((inverse_exists n A N square beside.form).0 (X, i))), h.1)

  pub cleared : (room' : List ℕ) (w : ℕ) → w ≡ words_of (n + n) → room' ≡ zeroed 0 (min (n * w) (length room₁)) room₁ → BesideCleared n n k room room'
  cleared room' w ew z =
      z ∙ ap (λ (x : ℕ). zeroed 0 (min (n * x) (length room₁)) room₁) ew ∙ room_cleared n k (words_of (n + n)) room room₁ passes.roomy l beside.behind

-- the checks leave a square matrix
pub squared : (rows columns k : ℕ) (m : List ℕ) (result room : ℕ) → InversePasses rows columns k m result room → InversePasses rows rows k m result room
squared rows columns k m result room p = subst (λ (c : ℕ). InversePasses rows c k m result room) (sym p.square) p
