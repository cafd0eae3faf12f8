-- What is read off the reduced packets is what solving promises of images.
use mathlib.Core.Path.{◌≡◌, refl, sym, ap, ◌∙◌, subst}
use mathlib.Core.Logic.{◌↔◌, ◌⊎◌, inl, inr}
use mathlib.Core.Bool.{Bool, true, false, cond}
use mathlib.Core.List.{List}
use Prim.Native.Nat.{ℕ, ◌+◌, ◌-◌, ◌^◌, ◌<◌}
use native.Mathlib.Decide.{dec_lt}
use native.Mathlib.Omega.{arith}
use lib.Dec.{T}
use lib.ListN.{length}
use lib.Pow.{pow_pos}
use Rattle.gf2.specs.Rows.{row, tabulate, one_if}
use Rattle.gf2.specs.Reduced.{ReducedForm}
use Rattle.gf2.proofs.Products.{tabulate_row, tabulate_length, tabulate_past}
use Rattle.gf2.proofs.Space.{same_narrow}
use Rattle.images.specs.Packets.{Met, Contradictory, Agreed}
use Rattle.images.specs.ReadOff.{contradictory, known, content, shown, mark, marked}
use Rattle.images.proofs.Narrow.{shown_narrow}
use Rattle.images.proofs.Known.{contradictory_exactly, met_cases, content_theirs, known_exactly}
use Rattle.packets.specs.Solving.{Solved}

-- ---- a mark is 1 or 0, as the block is known or not

count_one : (b : Bool) → (one_if b ≡ 1) ↔ T b
count_one true = ((λ _. tt), λ _. refl)
count_one false = ((λ e. absurd (omega arith)), λ t. absurd t)

count_none : (b : Bool) → (one_if b ≡ 0) ↔ (T b → ⊥)
count_none true = ((λ e. absurd (omega arith)), λ k. absurd (k tt))
count_none false = ((λ _ t. t), λ _. refl)

if_known : (b : Bool) (x unknown : ℕ) → T b → cond b x unknown ≡ x
if_known true x unknown t = refl
if_known false x unknown t = absurd t

if_unknown : (b : Bool) (x unknown : ℕ) → one_if b ≡ 0 → cond b x unknown ≡ unknown
if_unknown true x unknown e = absurd (omega arith)
if_unknown false x unknown e = refl

-- ---- the packets reduced

module _ (n p : ℕ) (L R : List ℕ) (narrow : (i : ℕ) → row L i < 2 ^ (n + p)) (form : ReducedForm L R) where
  pub unmet : T (contradictory n p R) → Contradictory n p L
  unmet = (contradictory_exactly n p L R narrow form.reduced form.space).0

  met : (T (contradictory n p R) → ⊥) → Met n p L
  met k = go (met_cases n p L R narrow form.reduced form.space)
    where
      go : Met n p L ⊎ Contradictory n p L → Met n p L
      go (inl m) = m
      go (inr c) = absurd (k ((contradictory_exactly n p L R narrow form.reduced form.space).1 c))

  agreed : 0 < p → Met n p L → (j : ℕ) → j < n → T (known n R j) ↔ Agreed n p L j
  agreed pos m j l = known_exactly n p L R narrow form.reduced form.space pos m j l

  pub solved : (unknown : ℕ) → unknown < 2 ^ p → 0 < p → (T (contradictory n p R) → ⊥) → (image marks : List ℕ) (x : ℕ) → image ≡ tabulate n (shown unknown n R)
      → marks ≡ tabulate n (mark n R) → x ≡ marked marks → Solved unknown n p L image marks x
  unfolding shown mark
  solved unknown lu pos k image marks x ei em ex = record {
    met = m;
    known_marked = λ j l. ((λ e. (agreed pos m j l).0 (is_known j l e)), λ a. mark_at j l ∙ (count_one (known n R j)).1 ((agreed pos m j l).1 a));
    unknown_marked = λ j l. (
      (λ e a. (count_none (known n R j)).0 (sym (mark_at j l) ∙ e) ((agreed pos m j l).1 a)),
      λ k. mark_at j l ∙ (count_none (known n R j)).1 (λ t. k ((agreed pos m j l).0 t)),
    );
    contents = λ j l e X i h. (
        block_at j l ∙ if_known (known n R j) (content n R j) unknown (is_known j l e)
        ∙ sym (content_theirs n p L R narrow form.reduced form.space j (is_known j l e) X h)
        );
    unknowns = λ j l e. block_at j l ∙ if_unknown (known n R j) (content n R j) unknown (sym (mark_at j l) ∙ e);
    padding_zero = record { size = ap length ei ∙ tabulate_length n (shown unknown n R); narrow = λ i. narrow_at i (dec_lt i n) };
    counted = ex;
  }
    where
      m : Met n p L
      m = met k

      mark_at : (j : ℕ) → j < n → row marks j ≡ mark n R j
      mark_at j l = ap (λ (M : List ℕ). row M j) em ∙ tabulate_row n (mark n R) j l

      block_at : (j : ℕ) → j < n → row image j ≡ shown unknown n R j
      block_at j l = ap (λ (M : List ℕ). row M j) ei ∙ tabulate_row n (shown unknown n R) j l

      is_known : (j : ℕ) → j < n → row marks j ≡ 1 → T (known n R j)
      is_known j l e = (count_one (known n R j)).0 (sym (mark_at j l) ∙ e)

      payload_end : (n + p) - n ≡ p
      payload_end = omega arith

      narrow_block : (i : ℕ) → shown unknown n R i < 2 ^ p
      narrow_block i =
          let clean = same_narrow (n + p) L R form.space narrow in
          subst (λ (x : ℕ). shown unknown n R i < 2 ^ x) payload_end
          (shown_narrow (n + p) R clean unknown n (omega arith) (subst (λ (x : ℕ). unknown < 2 ^ x) (sym payload_end) lu) i)

      narrow_at : (i : ℕ) → Dec (i < n) → row image i < 2 ^ p
      narrow_at i (yes l) = rw (block_at i l) (narrow_block i)
      narrow_at i (no l) = rw (ap (λ (M : List ℕ). row M i) ei ∙ tabulate_past n (shown unknown n R) i (omega arith)) (pow_pos p)
