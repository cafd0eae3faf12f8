-- What solving answers, exactly: 10 if the arguments pass the checks and no image meets the packets; a mark of 1 if all images that meet them agree on the block. And the bounds of its answer.
use mathlib.Core.Path.{◌≡◌, sym, ap, ◌∙◌, subst}
use mathlib.Core.Logic.{◌⊎◌, inl, inr, ◌↔◌}
use Rattle.std.specs.Prelude.{Result, Ok, Err}
use mathlib.Core.List.{List}
use Prim.Native.Nat.{ℕ, ◌-◌, ◌<◌}
use lib.ListN.{length}
use Rattle.gf2.specs.Rows.{row}
use Rattle.gf2.specs.Reduced.{ReducedForm}
use Rattle.gf2.specs.Additions.{additions}
use Rattle.gf2.proofs.Space.{same_narrow}
use Rattle.words.specs.Words.{words_of, rows_of}
use Rattle.images.specs.Packets.{Met, Contradictory, Agreed}
use Rattle.images.specs.ReadOff.{unknown_block}
use Rattle.refusals.specs.declared.Refusal.{Refusal}
use Rattle.refusals.specs.declared.Refusal.TheVariants as refusal
use Rattle.refusals.specs.Outcome.{Outcome, outcome_of}
use Rattle.refusals.specs.Checks.{solving_checks}
use Rattle.refusals.proofs.Chain.{by_promise}
use Rattle.refusals.proofs.Never.{solving_never}
use Rattle.refusals.proofs.Passed.{refused_not, solving_passed}
use Rattle.matrix.specs.declared.Answer.{Answer}
use Rattle.matrix.specs.Calls.{figures, WithinBounds}
use Rattle.matrix.proofs.Bounds.{refused_bounds, told_bounds}
use Rattle.packets.specs.Solving.{BlocksTold, Refuted, SolvingPromised}

module _ (rows columns n k : ℕ) (m image marks room : List ℕ) (r : Result Answer Refusal) (m' image' marks' room' : List ℕ)
    (promise : SolvingPromised rows columns n k m image marks room r m' image' marks' room') where
  -- the packets, before and after
  abbrev L : List ℕ
  L = rows_of (words_of columns) rows m

  abbrev N : List ℕ
  N = rows_of (words_of columns) rows m'

  abbrev checks : Outcome
  checks = solving_checks rows columns n k m (length image) (length marks) (length room)

  outcome_is : {a : Result Answer Refusal} → r ≡ a → outcome_of r ≡ outcome_of a
  outcome_is e = ap outcome_of e

  abbrev AreTold : Type 0
  AreTold = BlocksTold unknown_block (additions k columns) columns n L N r image' marks'

  abbrev Unmet : Type 0
  Unmet = Refuted columns n L r image marks image' marks'

  -- a check has refused; or past the checks the blocks are told, or the packets refuted
  module _ {A : Type 0} where
    by_end : ((x : Refusal) → checks ≡ Err x → r ≡ Err x → A) → (checks ≡ Ok tt → ReducedForm L N → AreTold → A) → (checks ≡ Ok tt → Unmet → A) → A
    by_end refused told refuted = by_promise promise (λ x e a. refused x e a.0) (λ e a. past e a.0.reduced a.0.answered)
      where
        past : checks ≡ Ok tt → ReducedForm L N → AreTold ⊎ Unmet → A
        past e f (inl t) = told e f t
        past e f (inr t) = refuted e t

  -- 10, exactly if no image meets the packets
  pub ten_exactly : (outcome_of r ≡ Err refusal.Contradictory) ↔ ((checks ≡ Ok tt) × Contradictory n (columns - n) L)
  ten_exactly =
      by_end
      (λ x e a. (
        (λ d. absurd (solving_never rows columns n k m (length image) (length marks) (length room) (e ∙ sym (outcome_is a) ∙ d))),
        λ u. absurd (refused_not (sym e ∙ u.0)),
      ))
      (λ e f t. ((λ d. absurd (refused_not (sym d ∙ outcome_is t.answered))), λ u. absurd (u.1 t.solved.met)))
      (λ e t. ((λ d. (e, t.unmet)), λ u. outcome_is t.answered))

  -- answered, exactly if some image does
  pub answered_exactly : (outcome_of r ≡ Ok tt) ↔ ((checks ≡ Ok tt) × Met n (columns - n) L)
  answered_exactly =
      by_end
      (λ x e a. ((λ d. absurd (refused_not (sym (outcome_is a) ∙ d))), λ u. absurd (refused_not (sym e ∙ u.0))))
      (λ e f t. ((λ d. (e, t.solved.met)), λ u. outcome_is t.answered))
      (λ e t. ((λ d. absurd (refused_not (sym (outcome_is t.answered) ∙ d))), λ u. absurd (t.unmet u.1)))

  -- a mark is 1 exactly if all images that meet the packets agree on its block
  pub marked_exactly : outcome_of r ≡ Ok tt → (j : ℕ) → j < n → (row marks' j ≡ 1) ↔ Agreed n (columns - n) L j
  marked_exactly d j l =
      by_end
      (λ x e a. absurd (refused_not (sym (outcome_is a) ∙ d)))
      (λ e f t. t.solved.known_marked j l)
      (λ e t. absurd (refused_not (sym (outcome_is t.answered) ∙ d)))

  -- every call, refused or not
  pub solving_bounds : WithinBounds columns k (figures r)
  solving_bounds =
      by_end
      (λ x e a. subst (λ (a : Result Answer Refusal). WithinBounds columns k (figures a)) (sym a) (refused_bounds columns k x))
      (λ e f t. (
      let clean = (solving_passed rows columns n k m (length image) (length marks) (length room) e).clean in
      let narrow = same_narrow columns L N f.space clean in
      subst (λ (a : Result Answer Refusal). WithinBounds columns k (figures a)) (sym t.answered) (told_bounds columns k N (figures r).known f.reduced narrow)
      ))
      (λ e t. subst (λ (a : Result Answer Refusal). WithinBounds columns k (figures a)) (sym t.answered) (refused_bounds columns k refusal.Contradictory))
