-- The inverse's promise leaves no choice: two outcomes that it allows for the same arguments are equal, word for word. And the answer does not depend on k.
use mathlib.Core.Path.{◌≡◌, sym, ◌∙◌}
use mathlib.Core.Logic.{inl, inr}
use mathlib.Core.List.{List}
use Prim.Native.Nat.{ℕ, ◌*◌}
use lib.ListN.{length}
use Rattle.gf2.proofs.Inverse.{one_inverse}
use Rattle.words.specs.Words.{Slice, words_of, rows_of}
use Rattle.words.proofs.Slices.{same_slice}
use Rattle.refusals.specs.Outcome.{Outcome}
use Rattle.std.specs.Prelude.{Ok}
use Rattle.refusals.specs.Checks.{inverse_checks}
use Rattle.refusals.proofs.Chain.{by_promise}
use Rattle.refusals.proofs.Passed.{inverse_passed}
use Rattle.inverse.specs.Calls.{Inverted, InversionPromised}

module _ (rows columns : ℕ) (m result result' result₂ : List ℕ) (s : Slice result result') (s₂ : Slice result result₂) where
  one_answer : (r r₂ : Outcome) → length result ≡ rows * words_of rows → Inverted rows m result r result' → Inverted rows m result r₂ result₂ → (r ≡ r₂) × (result' ≡ result₂)
  one_answer r r₂ l (inl d) (inl g) = (d.0 ∙ sym g.0, same_slice result result' result₂ s s₂ (words_of rows) rows l (one_inverse d.1 g.1))
  one_answer r r₂ l (inr d) (inr g) = (d.0 ∙ sym g.0, d.2 ∙ sym g.2)
  one_answer r r₂ l (inl d) (inr g) = absurd (g.1 (rows_of (words_of rows) rows result') d.1)
  one_answer r r₂ l (inr d) (inl g) = absurd (d.1 (rows_of (words_of rows) rows result₂) g.1)

  -- two runs that pass their checks, whatever k and work room each has
  pub any_k : (k k₂ : ℕ) (room room₂ room' room₂' : List ℕ) (r r₂ : Outcome) → inverse_checks rows columns k m (length result) (length room) ≡ Ok tt
      → inverse_checks rows columns k₂ m (length result) (length room₂) ≡ Ok tt → InversionPromised rows columns k m result room r result' room' → InversionPromised rows columns k₂ m result room₂ r₂ result₂ room₂'
      → (r ≡ r₂) × (result' ≡ result₂)
  any_k k k₂ room room₂ room' room₂' r r₂ e e₂ p q =
      let passes = inverse_passed rows columns k m (length result) (length room) e in
      one_answer r r₂ (rw passes.square (rw passes.square at passes.fitting)) (p.past e).0 (q.past e₂).0

  pub one_inversion : (k : ℕ) (room room' room₂ : List ℕ) (r r₂ : Outcome) → InversionPromised rows columns k m result room r result' room' → InversionPromised rows columns k m result room r₂ result₂ room₂
      → (r ≡ r₂) × (result' ≡ result₂) × (room' ≡ room₂)
  one_inversion k room room' room₂ r r₂ p q =
      by_promise p
      (λ x e a. let b = q.stopped x e in (a.0 ∙ sym b.0, a.1 ∙ sym b.1, a.2 ∙ sym b.2))
      (λ e a. let t = any_k k k room room room' room₂ r r₂ e e p q in (t.0, t.1, a.1 ∙ sym (q.past e).1))
