-- Two lists of packets. Order and repeats mean nothing; and a list that holds every packet of another knows what that one knows, with the same content, or
-- is contradictory; and it is contradictory if that one is.
use mathlib.Core.Path.{◌≡◌, sym, ap, ◌∙◌}
use mathlib.Core.Logic.{◌⊎◌, inl, inr}
use mathlib.Core.Bool.{not}
use mathlib.Core.List.{List}
use Prim.Native.Nat.{ℕ, suc, ◌+◌, ◌/◌, ◌%◌, ◌^◌, ◌<◌}
use lib.Dec.{T, eqb}
use Rattle.gf2.specs.Rows.{row, SameRowSpace}
use Rattle.gf2.specs.Reduced.{Reduced}
use Rattle.gf2.proofs.Space.{same_sym, same_trans}
use Rattle.images.specs.Packets.{Met, Contradictory, Agreed, Among}
use Rattle.images.specs.ReadOff.{has_pivot, contradictory, known, content}
use Rattle.images.proofs.Found.{same_pivot_row}
use Rattle.images.proofs.Meeting.{meets_among, same_packets}
use Rattle.images.proofs.Known.{contradictory_exactly, known_exactly, content_theirs, met_cases}

-- ---- what is read off two reduced lists with one row space is the same

module _ (R S : List ℕ) (hR : Reduced R) (hS : Reduced S) (same : SameRowSpace R S) where
  pub same_contradictory : (n p : ℕ) → contradictory n p R ≡ contradictory n p S
  unfolding has_pivot
  same_contradictory n p = ap (λ (v : ℕ). not (eqb v 0)) (same_pivot_row n (n + p) R S hR hS same)

  pub same_known : (n j : ℕ) → known n R j ≡ known n S j
  unfolding known
  same_known n j = ap (λ (v : ℕ). eqb (v % 2 ^ n) (2 ^ j)) (same_pivot_row j (suc j) R S hR hS same)

  pub same_content : (n j : ℕ) → content n R j ≡ content n S j
  unfolding content
  same_content n j = ap (λ (v : ℕ). v / 2 ^ n) (same_pivot_row j (suc j) R S hR hS same)

-- the same packets in any order, each as often as one likes: their reduced lists have one row space
pub order_and_repeats : (L M R S : List ℕ) → SameRowSpace L R → SameRowSpace M S → Among L M → Among M L → SameRowSpace R S
order_and_repeats L M R S r s h k = same_trans (same_sym r) (same_trans (same_packets L M h k) s)

-- ---- a second list that holds every packet of the first

module _ (n p : ℕ) (L M R S : List ℕ) (narrowL : (i : ℕ) → row L i < 2 ^ (n + p)) (narrowM : (i : ℕ) → row M i < 2 ^ (n + p))
    (hR : Reduced R) (hS : Reduced S) (sameR : SameRowSpace L R) (sameS : SameRowSpace M S) (among : Among L M) where
  met_first : Met n p M → Met n p L
  met_first (X, image, h) = (X, image, meets_among n X L M among h)

  pub still_contradictory : T (contradictory n p R) → T (contradictory n p S)
  still_contradictory t =
      (contradictory_exactly n p M S narrowM hS sameS).1 (λ m. (contradictory_exactly n p L R narrowL hR sameR).0 t (met_first m))

  pub still_known : 0 < p → (j : ℕ) → j < n → T (known n R j) → T (contradictory n p S) ⊎ (T (known n S j) × (content n S j ≡ content n R j))
  still_known pos j l t = go (met_cases n p M S narrowM hS sameS)
    where
      go : Met n p M ⊎ Contradictory n p M → T (contradictory n p S) ⊎ (T (known n S j) × (content n S j ≡ content n R j))
      go (inr k) = inl ((contradictory_exactly n p M S narrowM hS sameS).1 k)
      go (inl m) = inr (k, sym (content_theirs n p M S narrowM hS sameS j k m.0 m.2) ∙ content_theirs n p L R narrowL hR sameR j t m.0 (meets_among n m.0 L M among m.2))
        where
          agreed : Agreed n p L j
          agreed = (known_exactly n p L R narrowL hR sameR pos (met_first m) j l).0 t

          k : T (known n S j)
          k = (known_exactly n p M S narrowM hS sameS pos m j l).1 (λ X Y iX iY mX mY. agreed X Y iX iY (meets_among n X L M among mX) (meets_among n Y L M among mY))
