-- The checks, step by step: each way out of a function that checks is the whole answer.
use mathlib.Core.Path.{◌≡◌, refl, sym, ap, ◌∙◌}
use mathlib.Core.Logic.{◌≢◌}
use mathlib.Core.List.{List}
use Prim.Native.Nat.{ℕ, suc, ◌+◌, ◌-◌, ◌*◌, ◌<◌, ◌≤◌}
use native.Mathlib.Omega.{arith}
use borrow.Author.Tests.{lt-ltb, le-ltb, eq-eqb, ne_eqb}
use lib.ListN.{length}
use Rattle.std.specs.Prelude.{Result, Ok, Err}
use Rattle.std.specs.Result.{result_and}
use Rattle.refusals.specs.declared.Refusal.{Refusal}
use Rattle.refusals.specs.declared.Refusal.TheVariants.{BytesLeft}
use Rattle.refusals.specs.Outcome.{Outcome, ◌and_then◌, first}
use Rattle.refusals.specs.Checks.{Sized}
use Rattle.refusals.proofs.Chain.{then_done}
use Rattle.bundle.specs.Bundle.{words_in, bad_shape, entry_order, entries_checks}
use Rattle.bundle.proofs.Passing.{shaped, placed}

-- which way a test of two numbers went
pub ruleset tests = (lt-ltb, le-ltb, eq-eqb, ne_eqb, arith)

-- an entry whose shape has passed
pub entry_shape : (s o : Outcome) (r c : ℕ) → o ≡ s and_then bad_shape r c → o ≡ Ok tt → Sized 512 r c
entry_shape s o r c eo e = shaped r c (then_done s (bad_shape r c) (sym eo ∙ e)).1

-- ---- entries one after the other; v is the answer of the n - i entries from entry i on, x that of entry i

module _ (rule : ℕ → Outcome) (n i p : ℕ) (b : List ℕ) {v : Outcome} (e : v ≡ entries_checks rule (n - i) i p b) where
  module _ (h : i < n) {x : Result ℕ Refusal} (ex : x ≡ result_and (first (entry_order rule i p b)) (Ok (p + 8 * words_in i b))) where
    next : v ≡ first (entry_order rule i p b) and_then entries_checks rule (n - (i + 1)) (i + 1) (p + 8 * words_in i b) b
    unfolding entries_checks
    next = let k : n - i ≡ suc (n - (i + 1)) = omega arith in e ∙ ap (λ (j : ℕ). entries_checks rule j i p b) k

    pub entries_refused : {r : Refusal} → x ≡ Err r → Err r ≡ v
    entries_refused {r} z = go (first (entry_order rule i p b)) ex next
      where
        go : (o : Outcome) → x ≡ result_and o (Ok (p + 8 * words_in i b)) → v ≡ o and_then entries_checks rule (n - (i + 1)) (i + 1) (p + 8 * words_in i b) b → Err r ≡ v
        go (Ok tt) f g = cc
        go (Err y) f g = cc

    pub entries_turn : {q : ℕ} → x ≡ Ok q → (v ≡ entries_checks rule (n - (i + 1)) (i + 1) q b) × (q ≤ length b)
    entries_turn {q} z = go (first (entry_order rule i p b)) refl ex next
      where
        go : (o : Outcome) → first (entry_order rule i p b) ≡ o → x ≡ result_and o (Ok (p + 8 * words_in i b)) → v ≡ o and_then entries_checks rule (n - (i + 1)) (i + 1) (p + 8 * words_in i b) b
            → (v ≡ entries_checks rule (n - (i + 1)) (i + 1) q b) × (q ≤ length b)
        go (Ok tt) d f g = let w : q ≡ p + 8 * words_in i b = cc in (cc, omega (arith, (placed rule i p b d).body.inside, w))
        go (Err y) d f g = cc

  pub entries_left : n ≤ i → p ≢ length b → Err BytesLeft ≡ v
  unfolding entries_checks
  entries_left h ne = let k : n - i ≡ 0 = omega arith in sym (e ∙ ap (λ (j : ℕ). entries_checks rule j i p b) k ∙ simp (ne_eqb p (length b) ne))

  pub entries_none : n ≤ i → p ≡ length b → Ok tt ≡ v
  unfolding entries_checks
  entries_none h z = let k : n - i ≡ 0 = omega arith in sym (e ∙ ap (λ (j : ℕ). entries_checks rule j i p b) k ∙ simp (eq-eqb p (length b) z))
