-- Each row space has one reduced form of a given size. By induction on both lists: the first pivots are equal, since nothing in the row space
-- has a one left of it; the rows below span the members without that column; the first rows differ by such a member, which is zero at every
-- pivot below, and so zero.
use mathlib.Core.Path.{◌≡◌, refl, sym, ap, ◌∙◌}
use mathlib.Core.Logic.{◌⊎◌, inl, inr}
use mathlib.Core.List.{List, [], ◌∷◌}
use Prim.Native.Nat.{ℕ, zero, suc, ◌<◌, ◌≤◌}
use native.Mathlib.Decide.{dec_lt}
use native.Mathlib.Nat.{le_antisymm}
use native.Mathlib.Omega.{arith}
use lib.Bits.{xor_zero_r}
use lib.ListN.{length}
use lib.Seq.{ext_get_or}
use Rattle.gf2.specs.Rows.{bit, ◌⊕◌, row, combine, RowSpace, SameRowSpace}
use Rattle.gf2.specs.Reduced.{Pivot, Reduced, ReducedForm}
use Rattle.gf2.proofs.Bits.{bit_of_zero, bit_xor, bit_cases}
use Rattle.gf2.proofs.Space.{same_sym, same_trans, space_ind, space_row, space_cons, space_uncons}
use Rattle.gf2.proofs.Pivot.{pivot_cases, pivot_not_zero, no_pivot, pivot_unique}

pub reduced_nil : Reduced []
reduced_nil = record { last = λ i j h e. refl; rising = λ i j p q h f g. no_pivot p f; alone = λ i j p f n. bit_of_zero p }

-- a column has one pivot
pub pivot_row_lem : (R : List ℕ) → Reduced R → (i k p : ℕ) → Pivot p (row R i) → Pivot p (row R k) → k ≡ i
pivot_row_lem R hR i k p f g = go (dec_lt i k) (dec_lt k i)
  where
    go : Dec (i < k) → Dec (k < i) → k ≡ i
    go (yes l) _ = absurd (omega (arith, hR.rising i k p p l f g))
    go (no l) (yes m) = absurd (omega (arith, hR.rising k i p p m g f))
    go (no l) (no m) = omega arith

-- ---- the first row and the rows below it

module _ (r : ℕ) (M : List ℕ) (hM : Reduced (r ∷ M)) where
  pub reduced_tail : Reduced M
  reduced_tail = record {
    last = λ i j h. hM.last (suc i) (suc j) (omega arith);
    rising = λ i j p q h. hM.rising (suc i) (suc j) p q (omega arith);
    alone = λ i j p f n. hM.alone (suc i) (suc j) p f (omega arith);
  }

  -- a zero row on top: there is nothing but zero
  pub all_zero : r ≡ 0 → (v : ℕ) → RowSpace (r ∷ M) v → v ≡ 0
  all_zero e = space_ind (λ (v : ℕ). v ≡ 0) (r ∷ M) refl (λ a b p q. rw (p, q, xor_zero_r 0)) each
    where
      each : (i : ℕ) → row (r ∷ M) i ≡ 0
      each zero = e
      each (suc i) = hM.last 0 (suc i) (omega arith) e

  module _ (p : ℕ) (f : Pivot p r) where
    -- nothing in the row space has a one left of the first pivot
    pub space_before : (v : ℕ) → RowSpace (r ∷ M) v → (c : ℕ) → c < p → bit c v ≡ 0
    space_before v s c h = space_ind (λ (u : ℕ). bit c u ≡ 0) (r ∷ M) (bit_of_zero c) (λ a b x y. rw (bit_xor c a b, x, y)) each v s
      where
        below : (i : ℕ) → (row M i ≡ 0) ⊎ ((q : ℕ) × Pivot q (row M i)) → bit c (row M i) ≡ 0
        below i (inl e) = rw e (bit_of_zero c)
        below i (inr (q, g)) = g.before c (omega (arith, hM.rising 0 (suc i) p q (omega arith) f g))

        each : (i : ℕ) → bit c (row (r ∷ M) i) ≡ 0
        each zero = f.before c h
        each (suc i) = below i (pivot_cases (row M i))

    -- nothing in the row space of the rows below has a one in the first pivot's column
    pub rest_clear : (v : ℕ) → RowSpace M v → bit p v ≡ 0
    rest_clear = space_ind (λ (u : ℕ). bit p u ≡ 0) M (bit_of_zero p) (λ a b x y. rw (bit_xor p a b, x, y)) (λ i. hM.alone 0 (suc i) p f (omega arith))

    -- what has none there is in it
    pub rest_space : (v : ℕ) → RowSpace (r ∷ M) v → bit p v ≡ 0 → RowSpace M v
    rest_space v s e = go (space_uncons r M v s)
      where
        go : RowSpace M v ⊎ ((w : ℕ) × RowSpace M w × (v ≡ r ⊕ w)) → RowSpace M v
        go (inl t) = t
        go (inr (w, t, d)) = absurd (omega (arith, e, rw (d, bit_xor p r w, f.one, rest_clear w t) at e))

    -- what has one there is the first row and a sum of the rows below
    pub first_space : (v : ℕ) → RowSpace (r ∷ M) v → bit p v ≡ 1 → (w : ℕ) × RowSpace M w × (v ≡ r ⊕ w)
    first_space v s e = go (space_uncons r M v s)
      where
        go : RowSpace M v ⊎ ((w : ℕ) × RowSpace M w × (v ≡ r ⊕ w)) → (w : ℕ) × RowSpace M w × (v ≡ r ⊕ w)
        go (inl t) = absurd (omega (arith, e, rest_clear v t))
        go (inr t) = t

space_nil : (v : ℕ) → RowSpace [] v → v ≡ 0
unfolding combine
space_nil v (c, e) = sym e

-- a member of the row space with no one in any pivot's column is zero
pub clean_zero : (M : List ℕ) → Reduced M → (w : ℕ) → RowSpace M w → ((j q : ℕ) → Pivot q (row M j) → bit q w ≡ 0) → w ≡ 0
clean_zero [] hM w s h = space_nil w s
clean_zero (r ∷ M) hM w s h = go (pivot_cases r) (λ t. clean_zero M (reduced_tail r M hM) w t (λ j. h (suc j)))
  where
    go : (r ≡ 0) ⊎ ((p : ℕ) × Pivot p r) → (RowSpace M w → w ≡ 0) → w ≡ 0
    go (inl e) ih = all_zero r M hM e w s
    go (inr (p, f)) ih = ih (rest_space r M hM p f w s (h 0 p f))

-- the pivot of a member of the row space is the pivot of a row
pub space_pivot : (R : List ℕ) → Reduced R → (v p : ℕ) → RowSpace R v → Pivot p v → (i : ℕ) × (i < length R) × Pivot p (row R i)
space_pivot [] hR v p s f = absurd (pivot_not_zero p v f (space_nil v s))
space_pivot (r ∷ R) hR v p s f = go (pivot_cases r) (λ t. space_pivot R (reduced_tail r R hR) v p t f)
  where
    go : (r ≡ 0) ⊎ ((q : ℕ) × Pivot q r) → (RowSpace R v → (i : ℕ) × (i < length R) × Pivot p (row R i)) → (i : ℕ) × (i < suc (length R)) × Pivot p (row (r ∷ R) i)
    go (inl z) ih = absurd (pivot_not_zero p v f (all_zero r R hR z v s))
    go (inr (q, g)) ih = on (bit_cases q v)
      where
        on : (bit q v ≡ 0) ⊎ (bit q v ≡ 1) → (i : ℕ) × (i < suc (length R)) × Pivot p (row (r ∷ R) i)
        on (inl e) = let k = ih (rest_space r R hR q g v s e) in (suc k.0, omega (arith, k.1), k.2)
        on (inr e) = (0, omega arith, rw (pivot_unique p q v f (record { one = e; before = space_before r R hR q g v s })) g)

-- ---- two reduced lists with one row space

module _ (r s : ℕ) (M N : List ℕ) (hM : Reduced (r ∷ M)) (hN : Reduced (s ∷ N)) (same : SameRowSpace (r ∷ M) (s ∷ N)) where
  first_pivot_le : (p q : ℕ) → Pivot p r → Pivot q s → q ≤ p
  first_pivot_le p q f g = go (dec_lt p q)
    where
      go : Dec (p < q) → q ≤ p
      go (yes l) = absurd (omega (arith, f.one, space_before s N hN q g r (same.to r (space_row (r ∷ M) 0)) p l))
      go (no n) = omega arith

  rest_same : (p : ℕ) → Pivot p r → Pivot p s → (v : ℕ) → RowSpace M v → RowSpace N v
  rest_same p f g v t = rest_space s N hN p g v (same.to v (space_cons r M v t)) (rest_clear r M hM p f v t)

  first_same : (p : ℕ) → Pivot p r → Pivot p s → ((i : ℕ) → row M i ≡ row N i) → r ≡ s
  first_same p f g e = go (first_space s N hN p g r (same.to r (space_row (r ∷ M) 0)) f.one)
    where
      go : (w : ℕ) × RowSpace N w × (r ≡ s ⊕ w) → r ≡ s
      go (w, t, d) = d ∙ ap (λ (x : ℕ). s ⊕ x) (clean_zero N (reduced_tail s N hN) w t clear) ∙ xor_zero_r s
        where
          clear : (j q : ℕ) → Pivot q (row N j) → bit q w ≡ 0
          clear j q h =
              let a : bit q r ≡ 0 = hM.alone (suc j) 0 q (rw (e j) h) (omega arith) in
              let b : bit q s ≡ 0 = hN.alone (suc j) 0 q h (omega arith) in
              rw (d, bit_xor q s w, b) at a

nothing_same : (M N : List ℕ) → ((v : ℕ) → RowSpace M v → v ≡ 0) → ((v : ℕ) → RowSpace N v → v ≡ 0) → (i : ℕ) → row M i ≡ row N i
nothing_same M N hM hN i = hM (row M i) (space_row M i) ∙ sym (hN (row N i) (space_row N i))

-- they have the same rows, and the longer one has zero rows more
pub same_reduced_rows : (M N : List ℕ) → Reduced M → Reduced N → SameRowSpace M N → (i : ℕ) → row M i ≡ row N i
same_reduced_rows [] N hM hN same = nothing_same [] N space_nil (λ v k. space_nil v (same.back v k))
same_reduced_rows (r ∷ M) [] hM hN same = nothing_same (r ∷ M) [] (λ v k. space_nil v (same.to v k)) space_nil
same_reduced_rows (r ∷ M) (s ∷ N) hM hN same =
    go (pivot_cases r) (pivot_cases s) (same_reduced_rows M N (reduced_tail r M hM) (reduced_tail s N hN))
  where
    go : (r ≡ 0) ⊎ ((p : ℕ) × Pivot p r) → (s ≡ 0) ⊎ ((p : ℕ) × Pivot p s) → (SameRowSpace M N → (i : ℕ) → row M i ≡ row N i) → (i : ℕ) → row (r ∷ M) i ≡ row (s ∷ N) i
    go (inl z) t ih = nothing_same (r ∷ M) (s ∷ N) (all_zero r M hM z) (λ v k. all_zero r M hM z v (same.back v k))
    go (inr f) (inl z) ih = nothing_same (r ∷ M) (s ∷ N) (λ v k. all_zero s N hN z v (same.to v k)) (all_zero s N hN z)
    go (inr (p, f)) (inr (q, g)) ih = both
      where
        g' : Pivot p s
        g' = rw (le_antisymm (first_pivot_le r s M N hM hN same p q f g) (first_pivot_le s r N M hN hM (same_sym same) q p g f)) at g

        below : (i : ℕ) → row M i ≡ row N i
        below = ih (record { to = rest_same r s M N hM hN same p f g'; back = rest_same s r N M hN hM (same_sym same) p g' f })

        both : (i : ℕ) → row (r ∷ M) i ≡ row (s ∷ N) i
        both zero = first_same r s M N hM hN same p f g' below
        both (suc i) = below i

-- of one length, they are equal
pub one_matrix : (M N : List ℕ) → length M ≡ length N → Reduced M → Reduced N → SameRowSpace M N → M ≡ N
one_matrix M N e hM hN same = ext_get_or 0 M N e (λ i l. same_reduced_rows M N hM hN same i)

-- the reduced form of a list is one
pub one_reduced_form : {L R S : List ℕ} → ReducedForm L R → ReducedForm L S → R ≡ S
one_reduced_form {R} {S} f g = one_matrix R S (f.size ∙ sym g.size) f.reduced g.reduced (same_trans (same_sym f.space) g.space)
