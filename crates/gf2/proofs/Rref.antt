-- The computed reduced form is one: `rref L` is reduced, as long as L, and has L's row space. A new row is first cleared by the rows of a reduced
-- list, then put among them by its pivot, and the rows above it are cleared by it.
use mathlib.Core.Path.{◌≡◌, refl, ap, ◌∙◌}
use mathlib.Core.Logic.{◌≢◌, ◌⊎◌, inl, inr}
use mathlib.Core.Bool.{Bool, true, false, ◌||◌, ◌&&◌, not}
use mathlib.Core.List.{List, [], ◌∷◌}
use Prim.Native.Nat.{ℕ, zero, suc, ◌≤◌, ◌<◌}
use native.Mathlib.Decide.{ℕ_discrete, dec_lt}
use native.Mathlib.Omega.{arith}
use borrow.Author.Tests.{eqb-true, eqb-false, ltb-true, ltb-false}
use lib.Bits.{xor_self, xor_zero_r}
use lib.Dec.{eqb, ltb}
use lib.ListN.{length}
use Rattle.gf2.specs.Rows.{bit, ◌⊕◌, row, pick, RowSpace, SameRowSpace}
use Rattle.gf2.specs.Reduced.{Pivot, Reduced, ReducedForm, pivot}
use Rattle.gf2.specs.Rref.{clear, clear_all, above, place_by, place, rref}
use Rattle.gf2.proofs.Bits.{bit_of_zero, bit_xor, bit_cases, differ_zero, xor_cancel, xor_back, xor_mid}
use Rattle.gf2.proofs.Space.{same_refl, same_trans, same_rows, space_sub, space_xor, space_zero, space_row, space_cons, each_cons}
use Rattle.gf2.proofs.Pivot.{pivot_is, pivot_cases, pivot_not_zero, no_pivot, pivot_unique}
use Rattle.gf2.proofs.Reduced.{reduced_nil, reduced_tail, all_zero, space_before, rest_clear}

-- ---- a row cleared by another

-- it is v, or v ⊕ w
pub clear_cases : (P : ℕ → Type 0) (w v : ℕ) → (bit (pivot w) v ≡ 0 → P v) → (bit (pivot w) v ≡ 1 → P (v ⊕ w)) → P (clear w v)
unfolding clear pick
clear_cases P w v a b = go (bit_cases (pivot w) v)
  where
    go : (bit (pivot w) v ≡ 0) ⊎ (bit (pivot w) v ≡ 1) → P (v ⊕ pick (bit (pivot w) v) w)
    go (inl e) = rw (e, xor_zero_r v) (a e)
    go (inr e) = rw e (b e)

clear_done : (w v : ℕ) → w ≢ 0 → bit (pivot w) (clear w v) ≡ 0
clear_done w v n = clear_cases (λ (x : ℕ). bit (pivot w) x ≡ 0) w v (λ e. e) (λ e. rw (bit_xor (pivot w) v w, e, (pivot_is w n).one))

-- where w has a zero it is as it was
clear_keeps : (w v c : ℕ) → bit c w ≡ 0 → bit c (clear w v) ≡ bit c v
clear_keeps w v c h = clear_cases (λ (x : ℕ). bit c x ≡ bit c v) w v (λ e. refl) (λ e. rw (bit_xor c v w, h) (differ_zero (bit c v)))

clear_by_zero : (v : ℕ) → clear 0 v ≡ v
clear_by_zero v = clear_cases (λ (x : ℕ). x ≡ v) 0 v (λ e. refl) (λ e. xor_zero_r v)

clear_zero : (w : ℕ) → clear w 0 ≡ 0
clear_zero w = clear_cases (λ (x : ℕ). x ≡ 0) w 0 (λ e. refl) (λ e. absurd (omega (arith, bit_of_zero (pivot w))))

clear_space : (L : List ℕ) (w v : ℕ) → RowSpace L w → RowSpace L v → RowSpace L (clear w v)
clear_space L w v sw sv = clear_cases (RowSpace L) w v (λ e. sv) (λ e. space_xor L v w sv sw)

unclear_space : (L : List ℕ) (w v : ℕ) → RowSpace L w → RowSpace L (clear w v) → RowSpace L v
unclear_space L w v sw = clear_cases (λ (x : ℕ). RowSpace L x → RowSpace L v) w v (λ e s. s) (λ e s. rw xor_back at (space_xor L (v ⊕ w) w s sw))

-- clearing moves no pivot, where w has a zero there
clear_pivot : (w x q : ℕ) → w ≢ 0 → Pivot q x → bit q w ≡ 0 → Pivot q (clear w x)
clear_pivot w x q n f e = go (dec_lt q (pivot w))
  where
    keep : q < pivot w → (c : ℕ) → c ≤ q → bit c (clear w x) ≡ bit c x
    keep l c h = clear_keeps w x c ((pivot_is w n).before c (omega arith))

    go : Dec (q < pivot w) → Pivot q (clear w x)
    go (yes l) = record { one = keep l q (omega arith) ∙ f.one; before = λ c h. keep l c (omega arith) ∙ f.before c h }
    go (no m) = clear_cases (λ (y : ℕ). Pivot q y) w x (λ o. f) (λ o. absurd (far (ℕ_discrete (pivot w) q) o))
      where
        far : Dec (pivot w ≡ q) → bit (pivot w) x ≡ 1 → ⊥
        far (yes i) o = omega (arith, e, rw i at (pivot_is w n).one)
        far (no i) o = omega (arith, f.before (pivot w) (omega arith))

-- ---- a row cleared by all rows of a list

clear_diff : (L : List ℕ) (w v : ℕ) → RowSpace L w → RowSpace L (v ⊕ clear w v)
clear_diff L w v s = clear_cases (λ (x : ℕ). RowSpace L (v ⊕ x)) w v (λ e. rw (xor_self v) (space_zero L)) (λ e. rw (xor_cancel v w) s)

-- what is added is in their row space
clear_all_diff : (R : List ℕ) (v : ℕ) → RowSpace R (v ⊕ clear_all R v)
unfolding clear_all
clear_all_diff [] v = rw (xor_self v) (space_zero [])
clear_all_diff (r ∷ R) v =
    let u : ℕ = clear r v in
    let x : ℕ = clear_all R u in
    rw (xor_mid v u x) at
    (space_xor (r ∷ R) (v ⊕ u) (u ⊕ x) (clear_diff (r ∷ R) r v (space_row (r ∷ R) 0)) (space_cons r R (u ⊕ x) (clear_all_diff R u)))

same_bit : (c u x : ℕ) → bit c (u ⊕ x) ≡ 0 → bit c u ≡ 0 → bit c x ≡ 0
same_bit c u x h e = rw (bit_xor c u x, e) at h

-- w has no one in any pivot's column of R
abbrev Clean : ℕ → List ℕ → Type 0
Clean w R = (j q : ℕ) → Pivot q (row R j) → bit q w ≡ 0

clear_all_clean : (R : List ℕ) → Reduced R → (v : ℕ) → Clean (clear_all R v) R
unfolding clear_all
clear_all_clean [] hR v j q f = no_pivot q f
clear_all_clean (r ∷ R) hR v zero q f =
    same_bit q (clear r v) (clear_all R (clear r v)) (rest_clear r R hR q f (clear r v ⊕ clear_all R (clear r v)) (clear_all_diff R (clear r v)))
    (rw (pivot_unique q (pivot r) r f (pivot_is r (pivot_not_zero q r f))) (clear_done r v (pivot_not_zero q r f)))
clear_all_clean (r ∷ R) hR v (suc j) q f = clear_all_clean R (reduced_tail r R hR) (clear r v) j q f

-- ---- where a row goes

-- it is not zero, and r has no one up to its pivot
Above : ℕ → ℕ → Type 0
Above w r = (w ≢ 0) × ((c : ℕ) → c ≤ pivot w → bit c r ≡ 0)

Below : ℕ → ℕ → Type 0
Below w r = (w ≡ 0) ⊎ ((w ≢ 0) × (r ≢ 0) × (pivot r ≤ pivot w))

abbrev Place : Bool → ℕ → ℕ → Type 0
Place b w r = ((b ≡ true) × Above w r) ⊎ ((b ≡ false) × Below w r)

above_cases : (w r : ℕ) → Place (above w r) w r
unfolding above Above Below
above_cases w r = go (eqb w 0) (eqb r 0) (ltb (pivot w) (pivot r)) refl refl refl
  where
    go : (x y z : Bool) → eqb w 0 ≡ x → eqb r 0 ≡ y → ltb (pivot w) (pivot r) ≡ z → Place (not x && (y || z)) w r
    go true y z ex ey ez = inr (refl, inl (eqb-true w 0 ex))
    go false true z ex ey ez = inl (refl, (eqb-false w 0 ex, λ c h. rw (eqb-true r 0 ey) (bit_of_zero c)))
    go false false true ex ey ez =
        inl (refl, (eqb-false w 0 ex, λ c h. (pivot_is r (eqb-false r 0 ey)).before c (omega (arith, ltb-true (pivot w) (pivot r) ez))))
    go false false false ex ey ez = inr (refl, inr (eqb-false w 0 ex, eqb-false r 0 ey, ltb-false (pivot w) (pivot r) ez))

-- each row is w, a row of R, or one cleared by w
each_place : (P : ℕ → Type 0) (w : ℕ) (R : List ℕ) → P 0 → P w → ((i : ℕ) → P (row R i)) → ((i : ℕ) → P (clear w (row R i))) → (k : ℕ) → P (row (place w R) k)
unfolding place place_by
each_place P w [] z pw pr pc = each_cons P w [] pw (λ i. z)
each_place P w (r ∷ R) z pw pr pc = go (above_cases w r) (each_place P w R z pw (λ i. pr (suc i)) (λ i. pc (suc i)))
  where
    go : Place (above w r) w r → ((k : ℕ) → P (row (place w R) k)) → (k : ℕ) → P (row (place_by (above w r) w r R (place w R)) k)
    go (inl (e, _)) ih = rw e (each_cons P w (r ∷ R) pw pr)
    go (inr (e, _)) ih = rw e (each_cons P (clear w r) (place w R) (pc 0) ih)

-- ---- the size and the row space

place_length : (w : ℕ) (R : List ℕ) → length (place w R) ≡ suc (length R)
unfolding place place_by
place_length w [] = refl
place_length w (r ∷ R) = go (above w r) (place_length w R)
  where
    go : (b : Bool) → length (place w R) ≡ suc (length R) → length (place_by b w r R (place w R)) ≡ suc (suc (length R))
    go true ih = refl
    go false ih = ap suc ih

place_space : (w : ℕ) (R : List ℕ) → SameRowSpace (w ∷ R) (place w R)
unfolding place place_by
place_space w [] = same_refl (w ∷ [])
place_space w (r ∷ R) = go (above_cases w r) (place_space w R)
  where
    go : Place (above w r) w r → SameRowSpace (w ∷ R) (place w R) → SameRowSpace (w ∷ r ∷ R) (place_by (above w r) w r R (place w R))
    go (inl (e, _)) ih = rw e (same_refl (w ∷ r ∷ R))
    go (inr (e, _)) ih =
        let N : List ℕ = clear w r ∷ place w R in
        let L : List ℕ = w ∷ r ∷ R in
        let up : (v : ℕ) → RowSpace (w ∷ R) v → RowSpace N v = λ v s. space_cons (clear w r) (place w R) v (ih.to v s) in
        let inW : RowSpace N w = up w (space_row (w ∷ R) 0) in
        rw e (same_rows L N
        (each_cons (RowSpace N) w (r ∷ R) inW (each_cons (RowSpace N) r R (unclear_space N w r inW (space_row N 0)) (λ i. up (row R i) (space_row (w ∷ R) (suc i)))))
        (each_cons (RowSpace L) (clear w r) (place w R) (clear_space L w r (space_row L 0) (space_row L 1))
        (λ i. space_sub (w ∷ R) L (each_cons (RowSpace L) w R (space_row L 0) (λ j. space_row L (suc (suc j)))) (row (place w R) i) (ih.back (row (place w R) i) (space_row (place w R) i)))))

-- a row cleared by sums of rows of R, added to R, says what the row said
cleared_space : (v : ℕ) (L R : List ℕ) → SameRowSpace L R → SameRowSpace (v ∷ L) (clear_all R v ∷ R)
cleared_space v L R ih =
    let w : ℕ = clear_all R v in
    let up : (u : ℕ) → RowSpace R u → RowSpace (w ∷ R) u = space_cons w R in
    let down : (u : ℕ) → RowSpace R u → RowSpace (v ∷ L) u = λ u s. space_cons v L u (ih.back u s) in
    same_rows (v ∷ L) (w ∷ R)
    (each_cons (RowSpace (w ∷ R)) v L (rw xor_back at (space_xor (w ∷ R) (v ⊕ w) w (up (v ⊕ w) (clear_all_diff R v)) (space_row (w ∷ R) 0))) (λ i. up (row L i) (ih.to (row L i) (space_row L i))))
    (each_cons (RowSpace (v ∷ L)) w R (rw xor_cancel at (space_xor (v ∷ L) v (v ⊕ w) (space_row (v ∷ L) 0) (down (v ⊕ w) (clear_all_diff R v)))) (λ i. down (row R i) (space_row R i)))

-- ---- it is reduced

-- a reduced list, from its first row and the others
reduced_cons : (r : ℕ) (M : List ℕ) → Reduced M → (r ≡ 0 → (j : ℕ) → row M j ≡ 0) → ((p : ℕ) → Pivot p r → (j c : ℕ) → c ≤ p → bit c (row M j) ≡ 0)
    → Clean r M → Reduced (r ∷ M)
reduced_cons r M hM z a b = record { last = last; rising = rising; alone = alone }
  where
    last : (i j : ℕ) → i < j → row (r ∷ M) i ≡ 0 → row (r ∷ M) j ≡ 0
    last i zero h e = absurd (omega arith)
    last zero (suc j) h e = z e j
    last (suc i) (suc j) h e = hM.last i j (omega arith) e

    rising : (i j p q : ℕ) → i < j → Pivot p (row (r ∷ M) i) → Pivot q (row (r ∷ M) j) → p < q
    rising i zero p q h f g = absurd (omega arith)
    rising zero (suc j) p q h f g = go (dec_lt p q)
      where
        go : Dec (p < q) → p < q
        go (yes l) = l
        go (no n) = absurd (omega (arith, g.one, a p f j q (omega arith)))
    rising (suc i) (suc j) p q h f g = hM.rising i j p q (omega arith) f g

    alone : (i j p : ℕ) → Pivot p (row (r ∷ M) i) → j ≢ i → bit p (row (r ∷ M) j) ≡ 0
    alone zero zero p f n = absurd (n refl)
    alone zero (suc j) p f n = a p f j p (omega arith)
    alone (suc i) zero p f n = b i p f
    alone (suc i) (suc j) p f n = hM.alone i j p f (omega arith)

-- the rows below have no one up to the pivot
tail_low : (r : ℕ) (M : List ℕ) → Reduced (r ∷ M) → (p : ℕ) → Pivot p r → (j c : ℕ) → c ≤ p → bit c (row M j) ≡ 0
tail_low r M h p f j c l = go (ℕ_discrete c p)
  where
    go : Dec (c ≡ p) → bit c (row M j) ≡ 0
    go (yes e) = rw e (h.alone 0 (suc j) p f (omega arith))
    go (no n) = space_before r M h p f (row M j) (space_row (r ∷ M) (suc j)) c (omega arith)

module _ (w r : ℕ) (R : List ℕ) (hR : Reduced (r ∷ R)) (cl : Clean w (r ∷ R)) where
  place_above : Above w r → Reduced (w ∷ r ∷ R)
  unfolding Above
  place_above (n, low) =
      reduced_cons w (r ∷ R) hR (λ z. absurd (n z))
      (λ p f j c h. each_cons (λ (x : ℕ). bit c x ≡ 0) r R (at p f c h) (λ i. go (pivot_cases r) p f c h i) j) cl
    where
      at : (p : ℕ) → Pivot p w → (c : ℕ) → c ≤ p → bit c r ≡ 0
      at p f c h = low c (omega (arith, pivot_unique p (pivot w) w f (pivot_is w n)))

      go : (r ≡ 0) ⊎ ((q : ℕ) × Pivot q r) → (p : ℕ) → Pivot p w → (c : ℕ) → c ≤ p → (i : ℕ) → bit c (row R i) ≡ 0
      go (inl z) p f c h i = rw (all_zero r R hR z (row R i) (space_row (r ∷ R) (suc i))) (bit_of_zero c)
      go (inr (q, g)) p f c h i = tail_low r R hR q g i c (less (dec_lt q c))
        where
          less : Dec (q < c) → c ≤ q
          less (yes l) = absurd (omega (arith, g.one, at p f q (omega arith)))
          less (no m) = omega arith

  place_zero : w ≡ 0 → Reduced (place w R) → Reduced (clear w r ∷ place w R)
  place_zero e ih = rw (e, clear_by_zero r) (reduced_cons r (place 0 R) (rw e at ih) z a b)
    where
      each : (P : ℕ → Type 0) → P 0 → ((i : ℕ) → P (row R i)) → (k : ℕ) → P (row (place 0 R) k)
      each P z h = each_place P 0 R z z h (λ i. rw (clear_by_zero (row R i)) (h i))

      z : r ≡ 0 → (j : ℕ) → row (place 0 R) j ≡ 0
      z i = each (λ (x : ℕ). x ≡ 0) refl (λ j. all_zero r R hR i (row R j) (space_row (r ∷ R) (suc j)))

      a : (p : ℕ) → Pivot p r → (j c : ℕ) → c ≤ p → bit c (row (place 0 R) j) ≡ 0
      a p f j c h = each (λ (x : ℕ). bit c x ≡ 0) (bit_of_zero c) (λ i. tail_low r R hR p f i c h) j

      b : (j q : ℕ) → Pivot q (row (place 0 R) j) → bit q r ≡ 0
      b j q = each (λ (x : ℕ). Pivot q x → bit q r ≡ 0) (no_pivot q) (λ i f. hR.alone (suc i) 0 q f (omega arith)) j

  place_below : w ≢ 0 → r ≢ 0 → pivot r ≤ pivot w → Reduced (place w R) → Reduced (clear w r ∷ place w R)
  place_below n m l ih = reduced_cons (clear w r) (place w R) ih (λ e. absurd (pivot_not_zero (pivot r) (clear w r) fc e)) a b
    where
      f : Pivot (pivot r) r
      f = pivot_is r m

      off : bit (pivot r) w ≡ 0
      off = cl 0 (pivot r) f

      fc : Pivot (pivot r) (clear w r)
      fc = clear_pivot w r (pivot r) n f off

      lt : pivot r < pivot w
      lt = go (ℕ_discrete (pivot r) (pivot w))
        where
          go : Dec (pivot r ≡ pivot w) → pivot r < pivot w
          go (yes e) = absurd (omega (arith, (pivot_is w n).one, rw e at off))
          go (no k) = omega arith

      a : (p : ℕ) → Pivot p (clear w r) → (j c : ℕ) → c ≤ p → bit c (row (place w R) j) ≡ 0
      a p g j c h =
          let le : c ≤ pivot r = omega (arith, pivot_unique p (pivot r) (clear w r) g fc) in
          let bw : bit c w ≡ 0 = (pivot_is w n).before c (omega (arith, lt)) in
          each_place (λ (x : ℕ). bit c x ≡ 0) w R (bit_of_zero c) bw (λ i. tail_low r R hR (pivot r) f i c le)
          (λ i. clear_keeps w (row R i) c bw ∙ tail_low r R hR (pivot r) f i c le) j

      old : (i q : ℕ) → Pivot q (row R i) → bit q (clear w r) ≡ 0
      old i q g = clear_keeps w r q (cl (suc i) q g) ∙ hR.alone (suc i) 0 q g (omega arith)

      b : (j q : ℕ) → Pivot q (row (place w R) j) → bit q (clear w r) ≡ 0
      b j q = each_place (λ (x : ℕ). Pivot q x → bit q (clear w r) ≡ 0) w R (no_pivot q)
          (λ g. rw (pivot_unique q (pivot w) w g (pivot_is w n)) (clear_done w r n))
          (λ i. old i q)
          (λ i g. go i g (pivot_cases (row R i))) j
        where
          go : (i : ℕ) → Pivot q (clear w (row R i)) → (row R i ≡ 0) ⊎ ((p : ℕ) × Pivot p (row R i)) → bit q (clear w r) ≡ 0
          go i g (inl z) = no_pivot q (rw (z, clear_zero w) at g)
          go i g (inr (p, h)) = rw (pivot_unique q p (clear w (row R i)) g (clear_pivot w (row R i) p n h (cl (suc i) p h))) (old i p h)

place_reduced : (w : ℕ) (R : List ℕ) → Reduced R → Clean w R → Reduced (place w R)
unfolding place place_by Below
place_reduced w [] hR cl = reduced_cons w [] hR (λ z j. refl) (λ p f j c h. bit_of_zero c) cl
place_reduced w (r ∷ R) hR cl = go (above_cases w r) (place_reduced w R (reduced_tail r R hR) (λ j. cl (suc j)))
  where
    go : Place (above w r) w r → Reduced (place w R) → Reduced (place_by (above w r) w r R (place w R))
    go (inl (e, f)) ih = rw e (place_above w r R hR cl f)
    go (inr (e, inl z)) ih = rw e (place_zero w r R hR cl z ih)
    go (inr (e, inr (n, m, l))) ih = rw e (place_below w r R hR cl n m l ih)

-- ---- existence

-- each list has a reduced form, and it is computed
pub rref_form : (L : List ℕ) → ReducedForm L (rref L)
unfolding rref
rref_form [] = record { size = refl; reduced = reduced_nil; space = same_refl [] }
rref_form (v ∷ L) = go (rref L) (rref_form L)
  where
    go : (R : List ℕ) → ReducedForm L R → ReducedForm (v ∷ L) (place (clear_all R v) R)
    go R ih = record {
      size = place_length (clear_all R v) R ∙ ap suc ih.size;
      reduced = place_reduced (clear_all R v) R ih.reduced (clear_all_clean R ih.reduced v);
      space = same_trans (cleared_space v L R ih.space) (place_space (clear_all R v) R);
    }
