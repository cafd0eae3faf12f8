-- A window's search takes a row as its next pivot: the row becomes what clearing will give, goes to its place, and the window's other pivot rows are cleared by it.
use mathlib.Core.Path.{◌≡◌, sym, ap, ◌∙◌}
use mathlib.Core.Logic.{◌≢◌, ◌⊎◌, inl, inr}
use mathlib.Core.List.{List, map}
use Prim.Native.Nat.{ℕ, suc, ◌+◌, ◌≤◌, ◌<◌}
use native.Mathlib.Decide.{ℕ_discrete}
use native.Mathlib.Omega.{arith}
use lib.Bits.{xor_self, xor_zero_r}
use lib.ListN.{length, set, length-set, length-map}
use lib.Seq.{get_or-set_same, get_or-set_other}
use Rattle.gf2.specs.Rows.{bit, ◌⊕◌, row, part, swapped, pick, RowSpace, SameRowSpace}
use Rattle.gf2.specs.Reduced.{Pivot}
use Rattle.gf2.proofs.Bits.{bit_of_zero, xor_back}
use Rattle.gf2.proofs.Space.{pick_each, same_sym, same_trans, same_rows, space_row, space_xor, space_zero, swap_rows}
use Rattle.gf2.proofs.Products.{map_row}
use Rattle.method.specs.Stage.{Pending}
use Rattle.method.proofs.Upto.{upto_tail, pivot_stays, pivot_here}
use Rattle.method.proofs.Pending.{part_has, part_sub, pending_pivot, pending_same}

-- column x cleared by row p in all other rows
unfoldable pub clear_by : ℕ → ℕ → List ℕ → List ℕ
unfolding pick
clear_by x p L = set (map (λ v. v ⊕ pick (bit x v) (row L p)) L) p (row L p)

-- ---- two rows exchanged

module _ (i k : ℕ) (L : List ℕ) (hi : i < length L) (hk : k < length L) where
  pub swap_to : row (swapped i k L) k ≡ row L i
  swap_to = get_or-set_same (set L i (row L k)) k (row L i) 0 (rw length-set hk)

  pub swap_from : row (swapped i k L) i ≡ row L k
  swap_from = go (ℕ_discrete i k)
    where
      go : Dec (i ≡ k) → row (swapped i k L) i ≡ row L k
      go (yes e) = ap (row (swapped i k L)) e ∙ swap_to ∙ ap (row L) e
      go (no n) = get_or-set_other (set L i (row L k)) k i (row L i) 0 n ∙ get_or-set_same L i (row L k) 0 hi

  pub swap_other : (j : ℕ) → j ≢ i → j ≢ k → row (swapped i k L) j ≡ row L j
  swap_other j n m = get_or-set_other (set L i (row L k)) k j (row L i) 0 m ∙ get_or-set_other L i j (row L k) 0 n

  pub swap_length : length (swapped i k L) ≡ length L
  swap_length = length-set (set L i (row L k)) k (row L i) ∙ length-set L i (row L k)

-- ---- a column cleared

module _ (x p : ℕ) (L : List ℕ) (hp : p < length L) where
  clear_length : length (clear_by x p L) ≡ length L
  unfolding clear_by
  clear_length = length-set (map (λ v. v ⊕ pick (bit x v) (row L p)) L) p (row L p) ∙ length-map L (λ v. v ⊕ pick (bit x v) (row L p))

  clear_own : row (clear_by x p L) p ≡ row L p
  unfolding clear_by
  clear_own = get_or-set_same (map (λ v. v ⊕ pick (bit x v) (row L p)) L) p (row L p) 0 (rw length-map hp)

  pub clear_other : (i : ℕ) → i ≢ p → row (clear_by x p L) i ≡ row L i ⊕ pick (bit x (row L i)) (row L p)
  unfolding clear_by pick
  clear_other i n =
      get_or-set_other (map (λ v. v ⊕ pick (bit x v) (row L p)) L) p i (row L p) 0 n
      ∙ map_row (λ v. v ⊕ pick (bit x v) (row L p)) (rw (bit_of_zero x, xor_zero_r 0)) L i

  -- the row space is as it was
  clear_same : SameRowSpace L (clear_by x p L)
  clear_same = same_rows L (clear_by x p L) (λ i. back i (ℕ_discrete i p)) (λ i. to i (ℕ_discrete i p))
    where
      by : (M : List ℕ) (i : ℕ) → RowSpace M (row L p) → RowSpace M (pick (bit x (row L i)) (row L p))
      by M i = pick_each (RowSpace M) (bit x (row L i)) (row L p) (space_zero M)

      own : RowSpace (clear_by x p L) (row L p)
      own = rw clear_own at (space_row (clear_by x p L) p)

      back : (i : ℕ) → Dec (i ≡ p) → RowSpace (clear_by x p L) (row L i)
      back i (yes e) = rw e own
      back i (no n) =
          let t : ℕ = pick (bit x (row L i)) (row L p) in
          rw xor_back at (space_xor (clear_by x p L) (row L i ⊕ t) t (rw (clear_other i n) at (space_row (clear_by x p L) i)) (by (clear_by x p L) i own))

      to : (i : ℕ) → Dec (i ≡ p) → RowSpace L (row (clear_by x p L) i)
      to i (yes e) = rw (e, clear_own) (space_row L p)
      to i (no n) = rw (clear_other i n) (space_xor L (row L i) (pick (bit x (row L i)) (row L p)) (space_row L i) (by L i (space_row L p)))

-- ---- row i₀ becomes what clearing will give, and changes places with row r + s

module _ (x r s i₀ : ℕ) (M F : List ℕ) (z : Pending x r s M F) (a : r + s ≤ i₀) (hM : i₀ < length M) (hF : i₀ < length F) where
  abbrev M₁ : List ℕ
  M₁ = set M i₀ (row F i₀)

  abbrev M₂ : List ℕ
  M₂ = swapped i₀ (r + s) M₁

  abbrev F₂ : List ℕ
  F₂ = swapped i₀ (r + s) F

  l₁ : i₀ < length M₁
  l₁ = rw length-set hM

  k₁ : r + s < length M₁
  k₁ = rw length-set (omega arith)

  -- the rows above stay
  front : (j : ℕ) → j < r + s → row M₂ j ≡ row M j
  front j h = swap_other i₀ (r + s) M₁ l₁ k₁ j (omega arith) (omega arith) ∙ get_or-set_other M i₀ j (row F i₀) 0 (omega arith)

  frontF : (j : ℕ) → j < r + s → row F₂ j ≡ row F j
  frontF j h = swap_other i₀ (r + s) F hF (omega arith) j (omega arith) (omega arith)

  -- row r + s is the row taken
  topM : row M₂ (r + s) ≡ row F i₀
  topM = swap_to i₀ (r + s) M₁ l₁ k₁ ∙ get_or-set_same M i₀ (row F i₀) 0 hM

  topF : row F₂ (r + s) ≡ row F i₀
  topF = swap_to i₀ (r + s) F hF (omega arith)

  pending_place : Pending x r s M₂ F₂
  pending_place = record {
    upto = upto_tail x (r + s) F F₂ z.upto frontF (λ k y h l. back k y h l (ℕ_discrete k (r + s)) (ℕ_discrete k i₀));
    mine = λ i h l. frontF i l ∙ z.mine i h l ∙ sym (front i l);
    diff = λ i. diff i (ℕ_discrete i (r + s)) (ℕ_discrete i i₀);
  }
    where
      back : (k y : ℕ) → r + s ≤ k → y < x → Dec (k ≡ r + s) → Dec (k ≡ i₀) → bit y (row F₂ k) ≡ 0
      back k y h l (yes e) d = rw (e, topF) (z.upto.rest i₀ y a l)
      back k y h l (no n) (yes e) = rw (e, swap_from i₀ (r + s) F hF (omega arith)) (z.upto.rest (r + s) y (omega arith) l)
      back k y h l (no n) (no m) = rw (swap_other i₀ (r + s) F hF (omega arith) k m n) (z.upto.rest k y h l)

      same_part : (v : ℕ) → RowSpace (part r s F) v → RowSpace (part r s F₂) v
      same_part = part_sub r s F (part r s F₂) (λ b l. rw (frontF (r + b) (omega arith)) at (part_has r s F₂ b l))

      diff : (i : ℕ) → Dec (i ≡ r + s) → Dec (i ≡ i₀) → RowSpace (part r s F₂) (row M₂ i ⊕ row F₂ i)
      diff i (yes e) d = rw (e, topM, topF, xor_self (row F i₀)) (space_zero (part r s F₂))
      diff i (no n) (yes e) =
          rw (e, swap_from i₀ (r + s) M₁ l₁ k₁, swap_from i₀ (r + s) F hF (omega arith), get_or-set_other M i₀ (r + s) (row F i₀) 0 (λ f. n (e ∙ sym f)))
          (same_part (row M (r + s) ⊕ row F (r + s)) (z.diff (r + s)))
      diff i (no n) (no m) =
          rw (swap_other i₀ (r + s) M₁ l₁ k₁ i m n, swap_other i₀ (r + s) F hF (omega arith) i m n, get_or-set_other M i₀ i (row F i₀) 0 m)
          (same_part (row M i ⊕ row F i) (z.diff i))

  -- ---- it has a one in column x, and the window's other pivot rows are cleared there by it

  module _ (N : List ℕ) (o : bit x (row F i₀) ≡ 1)
      (lifted : (j : ℕ) → r ≤ j → j < r + s → row N j ≡ row M₂ j ⊕ pick (bit x (row M₂ j)) (row M₂ (r + s)))
      (kept : (j : ℕ) → (j < r) ⊎ (r + s ≤ j) → row N j ≡ row M₂ j) where
    abbrev G : List ℕ
    G = clear_by x (r + s) F₂

    hF₂ : r + s < length F₂
    hF₂ = rw (swap_length i₀ (r + s) F hF (omega arith)) (omega arith)

    pub pending_take : Pending (suc x) r (suc s) N G
    pending_take =
        pending_pivot x r s M₂ F₂ N G pending_place (rw topF o)
        (kept (r + s) (inr (omega arith)) ∙ topM ∙ sym topF)
        (clear_own x (r + s) F₂ hF₂)
        (λ i h l. lifted i h l ∙ ap (λ (y : ℕ). row M₂ i ⊕ pick (bit x (row M₂ i)) y) (topM ∙ sym topF))
        (λ i h. kept i (weaken i h))
        (clear_other x (r + s) F₂ hF₂)
      where
        weaken : (i : ℕ) → (i < r) ⊎ (r + s < i) → (i < r) ⊎ (r + s ≤ i)
        weaken i (inl h) = inl h
        weaken i (inr h) = inr (omega arith)

    -- the pivots of the rows above stay
    pub take_pivot : (i p : ℕ) → i < r + s → p < x → Pivot p (row F i) → Pivot p (row G i)
    take_pivot i p h l f = pivot_stays x (r + s) F₂ G pending_place.upto (rw topF o) (clear_own x (r + s) F₂ hF₂) (clear_other x (r + s) F₂ hF₂) i p l (rw (frontF i h) f)

    -- the row taken has its pivot in column x
    pub take_here : Pivot x (row G (r + s))
    take_here = pivot_here x (r + s) F₂ G pending_place.upto (rw topF o) (clear_own x (r + s) F₂ hF₂) (clear_other x (r + s) F₂ hF₂)

    -- the row space is as it was
    pub take_same : SameRowSpace M N
    take_same =
        same_trans (pending_same x r s M F z)
        (same_trans (same_sym (swap_rows F i₀ (r + s) hF (omega arith)))
        (same_trans (clear_same x (r + s) F₂ hF₂) (same_sym (pending_same (suc x) r (suc s) N G pending_take))))

    pub take_length : length G ≡ length F
    take_length = clear_length x (r + s) F₂ hF₂ ∙ swap_length i₀ (r + s) F hF (omega arith)
