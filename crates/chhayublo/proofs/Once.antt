-- What these calls promise leaves no choice: two outcomes that a contract allows for the same arguments are equal, word for word. The other calls' contracts are equations.
-- A slice keeps its length, and its words fit 64 bits.
use mathlib.Core.Path.{◌≡◌, sym, ap, ◌∙◌}
use Rattle.std.specs.Prelude.{Result}
use mathlib.Core.List.{List}
use Prim.Native.Nat.{ℕ}
use lib.ListN.{length}
use Rattle.words.specs.Words.{Slice}
use Rattle.refusals.specs.declared.Refusal.{Refusal}
use Rattle.refusals.specs.Outcome.{Outcome, outcome_number}
use Rattle.matrix.specs.declared.Answer.{Answer}
use Rattle.matrix.specs.Calls.{ReductionPromised}
use Rattle.matrix.proofs.Once.{one_reduction}
use Rattle.inverse.specs.Calls.{InversionPromised}
use Rattle.inverse.proofs.Once.{one_inversion}
use Rattle.packets.specs.declared.Verdict.{Verdict}
use Rattle.packets.specs.Solving.{SolvingPromised}
use Rattle.packets.specs.Contradiction.{NamingPromised}
use Rattle.packets.proofs.Once.{one_solving, one_verdict}
use Rattle.chhayublo.specs.declared.SeenAnswer.{SeenAnswer}
use Rattle.chhayublo.specs.declared.SeenNames.{SeenNames}
use Rattle.chhayublo.specs.Calls.{seen_answer, seen_verdict}

module _ (rows columns k : ℕ) (m m' m₂ room room' room₂ : List ℕ) (s : Slice m m') (s₂ : Slice m m₂) (r r₂ : SeenAnswer) where
  pub reduced_once : ((a : Result Answer Refusal) × ReductionPromised rows columns k m room a m' room' × (r ≡ seen_answer a)) → ((a : Result Answer Refusal) × ReductionPromised rows columns k m room a m₂ room₂ × (r₂ ≡ seen_answer a))
      → (r ≡ r₂) × (m' ≡ m₂) × (room' ≡ room₂)
  reduced_once p q =
      let t = one_reduction rows columns m m' m₂ s s₂ k room room' room₂ p.0 q.0 p.1 q.1 in
      (p.2 ∙ ap seen_answer t.0 ∙ sym q.2, t.1, t.2)

module _ (rows columns k : ℕ) (m result result' result₂ room room' room₂ : List ℕ) (s : Slice result result') (s₂ : Slice result result₂) (r r₂ : ℕ) where
  pub inverted_once : ((o : Outcome) × InversionPromised rows columns k m result room o result' room' × (r ≡ outcome_number o))
      → ((o : Outcome) × InversionPromised rows columns k m result room o result₂ room₂ × (r₂ ≡ outcome_number o))
      → (r ≡ r₂) × (result' ≡ result₂) × (room' ≡ room₂)
  inverted_once p q =
      let t = one_inversion rows columns m result result' result₂ s s₂ k room room' room₂ p.0 q.0 p.1 q.1 in
      (p.2 ∙ ap outcome_number t.0 ∙ sym q.2, t.1, t.2)

module _ (rows columns n k : ℕ) (m m' m₂ image image' image₂ marks marks' marks₂ room room' room₂ : List ℕ) (sm : Slice m m') (sm₂ : Slice m m₂) (si : Slice image image') (si₂ : Slice image image₂)
    (lm : length marks' ≡ length marks) (lm₂ : length marks₂ ≡ length marks) (r r₂ : SeenAnswer) where
  pub solved_once : ((a : Result Answer Refusal) × SolvingPromised rows columns n k m image marks room a m' image' marks' room' × (r ≡ seen_answer a))
      → ((a : Result Answer Refusal) × SolvingPromised rows columns n k m image marks room a m₂ image₂ marks₂ room₂ × (r₂ ≡ seen_answer a))
      → (r ≡ r₂) × (m' ≡ m₂) × (image' ≡ image₂) × (marks' ≡ marks₂) × (room' ≡ room₂)
  solved_once p q =
      let t = one_solving rows columns n m m' m₂ image image' image₂ marks marks' marks₂ sm sm₂ si si₂ lm lm₂ k room room' room₂ p.0 q.0 p.1 q.1 in
      (p.2 ∙ ap seen_answer t.0 ∙ sym q.2, t.1, t.2, t.3, t.4)

module _ (rows columns n k : ℕ) (m named named' named₂ room room' room₂ : List ℕ) (s : Slice named named') (s₂ : Slice named named₂) (r r₂ : SeenNames) where
  pub named_once : ((v : Result Verdict Refusal) × NamingPromised rows columns n k m named room v named' room' × (r ≡ seen_verdict v))
      → ((v : Result Verdict Refusal) × NamingPromised rows columns n k m named room v named₂ room₂ × (r₂ ≡ seen_verdict v))
      → (r ≡ r₂) × (named' ≡ named₂) × (room' ≡ room₂)
  named_once p q =
      let t = one_verdict rows columns n m named named' named₂ s s₂ k room room' room₂ p.0 q.0 p.1 q.1 in
      (p.2 ∙ ap seen_verdict t.0 ∙ sym q.2, t.1, t.2)
