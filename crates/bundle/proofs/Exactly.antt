-- What a meaning says of the checks: bytes mean a bundle exactly if nothing is refused.
use mathlib.Core.Path.{◌≡◌, refl, sym, ap, ap₂, ◌∙◌}
use mathlib.Core.Logic.{◌↔◌}
use mathlib.Core.List.{List}
use Prim.Native.Nat.{ℕ}
use lib.ListN.{length}
use Rattle.std.specs.Prelude.{Ok, Err}
use Rattle.refusals.specs.declared.Refusal.{Refusal}
use Rattle.refusals.specs.Outcome.{Outcome}
use Rattle.bundle.specs.Bundle.{Entry, count_of, bundle_checks, entries_from, entries_of, meant_by, meaning}
use Rattle.bundle.specs.Answers.{counted_in}
use Rattle.bundle.proofs.Meaning.{count_from}

meant_by_lem : (o : Outcome) (es es' : List Entry) → meant_by o es ≡ Ok es' → (o ≡ Ok tt) × (es ≡ es')
meant_by_lem (Ok tt) es es' e = (refl, cc)
meant_by_lem (Err r) es es' e = (cc, cc)

pub meant : (rule : ℕ → Outcome) (b : List ℕ) (es : List Entry) → meaning rule b ≡ Ok es → (bundle_checks rule b ≡ Ok tt) × (entries_of b ≡ es)
unfolding meaning
meant rule b es e = meant_by_lem (bundle_checks rule b) (entries_of b) es e

pub means : (rule : ℕ → Outcome) (b : List ℕ) (es : List Entry) → bundle_checks rule b ≡ Ok tt → entries_of b ≡ es → meaning rule b ≡ Ok es
unfolding meaning
means rule b es d e = ap₂ meant_by d e

counted_by : (o : Outcome) (es : List Entry) (n : ℕ) → counted_in (meant_by o es) ≡ Ok n → (o ≡ Ok tt) × (length es ≡ n)
unfolding counted_in
counted_by (Ok tt) es n e = (refl, cc)
counted_by (Err r) es n e = (cc, cc)

-- reading tells a count exactly if nothing is refused, and then it is the one in the first two bytes
pub exactly : (rule : ℕ → Outcome) (b : List ℕ) (n : ℕ) → (counted_in (meaning rule b) ≡ Ok n) ↔ ((bundle_checks rule b ≡ Ok tt) × (count_of b ≡ n))
unfolding meaning entries_of counted_in
exactly rule b n = (
  λ e. let t = counted_by (bundle_checks rule b) (entries_from (count_of b) 0 b) n e in
      (t.0, sym (count_from (count_of b) 0 b) ∙ t.1),
  λ t. ap (λ (o : Outcome). counted_in (meant_by o (entries_from (count_of b) 0 b))) t.0 ∙ ap Ok (count_from (count_of b) 0 b ∙ t.1),
)

refused_by : (o : Outcome) (es : List Entry) (r : Refusal) → counted_in (meant_by o es) ≡ Err r → meant_by o es ≡ Err r
unfolding counted_in
refused_by (Ok tt) es r e = cc
refused_by (Err x) es r e = let z : x ≡ r = cc in ap Err z

-- what reading is refused with is what the bytes mean
pub refused_means : (rule : ℕ → Outcome) (b : List ℕ) (r : Refusal) → counted_in (meaning rule b) ≡ Err r → meaning rule b ≡ Err r
unfolding meaning
refused_means rule b r e = refused_by (bundle_checks rule b) (entries_of b) r e
