-- The core's promises leave no choice: two outcomes that one of them allows, for the same arguments, are equal. A slice keeps its length, and its words fit 64 bits.
use mathlib.Core.Path.{◌≡◌, refl, sym, ap, ap₂, ◌∙◌}
use Rattle.std.specs.Prelude.{Result, Ok, Err}
use mathlib.Core.List.{List}
use Prim.Native.Nat.{ℕ}
use native.Mathlib.Omega.{arith}
use lib.ListN.{length}
use Rattle.gf2.specs.Reduced.{rank, pivot_record}
use Rattle.gf2.proofs.Reduced.{one_reduced_form}
use Rattle.words.specs.Words.{Slice, words_of}
use Rattle.words.proofs.Slices.{same_words}
use Rattle.refusals.specs.declared.Unfit.{Unfit}
use Rattle.refusals.specs.Outcome.{Taken}
use Rattle.engine.specs.declared.Eliminated.{Eliminated}
use Rattle.engine.specs.Core.{ReducedTo, TwoSlices, OneRoom}

-- both are taken, or neither
agree : {E A U U₂ X : Type 0} {F F₂ : E → Type 0} (r r₂ : Result E Unfit) → ((e e₂ : E) → r ≡ Ok e → r₂ ≡ Ok e₂ → A → F e → F₂ e₂ → X) → (r ≡ r₂ → U → U₂ → X)
    → Taken r A F U → Taken r₂ A F₂ U₂ → X
agree (Ok e) (Ok e₂) both neither f g = both e e₂ refl refl f.0 f.1 g.1
agree (Err u) (Err u₂) both neither f g = neither refl f.1 g.1
agree (Ok e) (Err u) both neither f g = absurd (g.0 f.0)
agree (Err u) (Ok e) both neither f g = absurd (f.0 g.0)

same_answer : {x x₂ y y₂ : ℕ} → x ≡ x₂ → y ≡ y₂ → ◌≡◌ {A = Eliminated} (record { rank = x; additions = y }) (record { rank = x₂; additions = y₂ })
same_answer e f = cc

-- one reduction
module _ {counts : List ℕ → ℕ} {L N N₂ list list₂ : List ℕ} {r r₂ : Eliminated} (f : ReducedTo counts L N r list) (g : ReducedTo counts L N₂ r₂ list₂) where
  pub one_matrix : N ≡ N₂
  one_matrix = one_reduced_form f.form g.form

  pub one_answer : r ≡ r₂
  one_answer = same_answer (f.rank_is ∙ ap rank one_matrix ∙ sym g.rank_is) (f.additions_are ∙ ap counts one_matrix ∙ sym g.additions_are)

  pub one_list : length list ≡ length list₂ → list ≡ list₂
  one_list l = f.pivots_are ∙ ap₂ (λ (X : List ℕ) (x : ℕ). pivot_record x X) one_matrix l ∙ sym g.pivots_are

module _ (rows columns k : ℕ) (m t list : List ℕ) where
  pub one_two_slices : (r r₂ : Result Eliminated Unfit) (m' t' list' m₂ t₂ list₂ : List ℕ) → Slice m m' → Slice m m₂ → length list' ≡ length list → length list₂ ≡ length list
      → TwoSlices r rows columns k m t list m' t' list' → TwoSlices r₂ rows columns k m t list m₂ t₂ list₂ → (r ≡ r₂) × (m' ≡ m₂) × (t' ≡ t₂) × (list' ≡ list₂)
  one_two_slices r r₂ m' t' list' m₂ t₂ list₂ s s₂ l l₂ =
      agree r r₂
      (λ e e₂ is is₂ fits f g. let held = fits.shape.held in (
        is ∙ ap Ok (one_answer f.0 g.0) ∙ sym is₂,
        same_words (words_of columns) rows m' m₂ s.fit s₂.fit (omega (arith, held, s.size)) (omega (arith, held, s₂.size)) (one_matrix f.0 g.0) (f.1 ∙ sym g.1),
        f.2 ∙ sym g.2,
        one_list f.0 g.0 (l ∙ sym l₂),
      ))
      (λ e f g. (e, f.0 ∙ sym g.0, f.1 ∙ sym g.1, f.2 ∙ sym g.2))

module _ (rows columns k : ℕ) (m list : List ℕ) where
  pub one_one_room : (r r₂ : Result Eliminated Unfit) (m' list' m₂ list₂ : List ℕ) → Slice m m' → Slice m m₂ → length list' ≡ length list → length list₂ ≡ length list
      → OneRoom r rows columns k m list m' list' → OneRoom r₂ rows columns k m list m₂ list₂ → (r ≡ r₂) × (m' ≡ m₂) × (list' ≡ list₂)
  one_one_room r r₂ m' list' m₂ list₂ s s₂ l l₂ =
      agree r r₂
      (λ e e₂ is is₂ fits f g. let held = fits.shape.held in (
        is ∙ ap Ok (one_answer f.0 g.0) ∙ sym is₂,
        same_words (words_of columns) rows m' m₂ s.fit s₂.fit (omega (arith, held, s.size)) (omega (arith, held, s₂.size)) (one_matrix f.0 g.0) (f.1 ∙ sym g.1),
        one_list f.0 g.0 (l ∙ sym l₂),
      ))
      (λ e f g. (e, f.0 ∙ sym g.0, f.1 ∙ sym g.1))
