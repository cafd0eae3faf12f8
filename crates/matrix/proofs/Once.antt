-- The reduction's promise leaves no choice: two outcomes that it allows for the same arguments are equal, word for word. And matrix, rank and pivots do not depend on k.
-- A slice keeps its length, and its words fit 64 bits.
use mathlib.Core.Path.{◌≡◌, sym, ap, ◌∙◌}
use mathlib.Core.List.{List}
use Rattle.std.specs.Prelude.{Result, Ok}
use Prim.Native.Nat.{ℕ, ◌*◌}
use lib.ListN.{length}
use Rattle.gf2.specs.Reduced.{rank, pivot_record}
use Rattle.gf2.specs.Additions.{additions}
use Rattle.gf2.proofs.Reduced.{one_reduced_form}
use Rattle.words.specs.Words.{Slice, words_of, rows_of}
use Rattle.refusals.specs.declared.Refusal.{Refusal}
use Rattle.refusals.specs.Outcome.{outcome_of}
use Rattle.refusals.specs.Checks.{reduction_checks}
use Rattle.refusals.proofs.Chain.{by_promise}
use Rattle.refusals.proofs.Passed.{reduction_passed}
use Rattle.words.proofs.Slices.{same_slice}
use Rattle.matrix.specs.declared.Answer.{Answer}
use Rattle.matrix.specs.Calls.{reduced_answer, figures, Reduction, ReductionPromised}

module _ (rows columns : ℕ) (m m' m₂ : List ℕ) (s : Slice m m') (s₂ : Slice m m₂) where
  same_buffer : length m ≡ rows * words_of columns → rows_of (words_of columns) rows m' ≡ rows_of (words_of columns) rows m₂ → m' ≡ m₂
  same_buffer = same_slice m m' m₂ s s₂ (words_of columns) rows

  -- whatever is counted, matrix, rank and pivots are the same
  pub any_engine : (counts counts₂ : List ℕ → ℕ) (r r₂ : Result Answer Refusal) → length m ≡ rows * words_of columns → Reduction counts rows columns m r m' → Reduction counts₂ rows columns m r₂ m₂
      → (m' ≡ m₂) × (outcome_of r ≡ outcome_of r₂) × ((figures r).rank ≡ (figures r₂).rank) × ((figures r).known ≡ (figures r₂).known) × ((figures r).pivots ≡ (figures r₂).pivots)
  any_engine counts counts₂ r r₂ exact a b =
      let n = one_reduced_form a.reduced b.reduced in
      let f = a.answered in
      let g = b.answered in (
        same_buffer exact n,
        ap outcome_of f ∙ sym (ap outcome_of g),
        ap (λ (x : Result Answer Refusal). (figures x).rank) f ∙ ap rank n ∙ sym (ap (λ (x : Result Answer Refusal). (figures x).rank) g),
        ap (λ (x : Result Answer Refusal). (figures x).known) f ∙ sym (ap (λ (x : Result Answer Refusal). (figures x).known) g),
        ap (λ (x : Result Answer Refusal). (figures x).pivots) f ∙ ap (pivot_record 512) n ∙ sym (ap (λ (x : Result Answer Refusal). (figures x).pivots) g),
      )

  pub one_reduction : (k : ℕ) (room room' room₂ : List ℕ) (r r₂ : Result Answer Refusal) → ReductionPromised rows columns k m room r m' room' → ReductionPromised rows columns k m room r₂ m₂ room₂
      → (r ≡ r₂) × (m' ≡ m₂) × (room' ≡ room₂)
  one_reduction k room room' room₂ r r₂ p q =
      by_promise p
      (λ x e a. let b = q.stopped x e in (a.0 ∙ sym b.0, a.1 ∙ sym b.1, a.2 ∙ sym b.2))
      (λ e a. (
      let b = q.past e in
      let n = one_reduced_form a.0.reduced b.0.reduced in (
        a.0.answered ∙ ap (λ (x : List ℕ). Ok (reduced_answer (additions k columns) x)) n ∙ sym b.0.answered,
        same_buffer (reduction_passed rows columns k m (length room) e).exact n,
        a.1 ∙ sym b.1,
      )
      ))

  -- two runs that pass their checks, whatever k and work room each has
  pub any_k : (k k₂ : ℕ) (room room₂ room' room₂' : List ℕ) (r r₂ : Result Answer Refusal) → reduction_checks rows columns k m (length room) ≡ Ok tt → reduction_checks rows columns k₂ m (length room₂) ≡ Ok tt
      → ReductionPromised rows columns k m room r m' room' → ReductionPromised rows columns k₂ m room₂ r₂ m₂ room₂'
      → (m' ≡ m₂) × (outcome_of r ≡ outcome_of r₂) × ((figures r).rank ≡ (figures r₂).rank) × ((figures r).known ≡ (figures r₂).known) × ((figures r).pivots ≡ (figures r₂).pivots)
  any_k k k₂ room room₂ room' room₂' r r₂ e e₂ p q =
      any_engine (additions k columns) (additions k₂ columns) r r₂ (reduction_passed rows columns k m (length room) e).exact (p.past e).0 (q.past e₂).0
