-- The inverse: it is one, and it exists exactly if the reduced form of [A | I] begins with the identity, in whose right half it then stands.
-- A row of the reduced form names on its right rows of A whose sum stands on its left: so the right half times A is the identity. The rows of
-- [A | I] are sums of rows of the reduced form in turn: so A times the right half is too.
use mathlib.Core.Path.{◌≡◌, refl, sym, ap, ap₂, ◌∙◌}
use mathlib.Core.Logic.{◌⊎◌, inl, inr, ◌↔◌}
use mathlib.Core.Bool.{Bool, true, false, ◌&&◌}
use mathlib.Core.List.{List, [], ◌∷◌}
use Prim.Native.Nat.{ℕ, zero, suc, ◌+◌, ◌/◌, ◌%◌, ◌^◌, ◌<◌}
use native.Mathlib.Decide.{ℕ_discrete, dec_lt}
use native.Mathlib.Nat.{zero-mod, zero-div, mod-eq_of_lt}
use native.Mathlib.Omega.{arith}
use borrow.Author.Tests.{eqb-true}
use lib.Bits.{xor_mod, xor_shr}
use lib.Dec.{T, eqb, eqb_refl}
use lib.ListN.{length, length-map}
use lib.Pow.{pow-lt, shr_lt}
use Rattle.gf2.specs.Rows.{bit, row, Matrix, combine, RowSpace}
use Rattle.gf2.specs.Reduced.{Pivot, Reduced, ReducedForm}
use Rattle.gf2.specs.Inverse.{identity, product, Inverse, adjoin, left_of, right_of, same, begins_with_identity}
use Rattle.gf2.proofs.Bits.{bit_ext, bit_mod, bit_mod_above, bit_pow, bit_pow_other}
use Rattle.gf2.proofs.Space.{combine_pow, combine_map, combine_low, space_row, same_narrow}
use Rattle.gf2.proofs.Pivot.{pivot_cases, pivot_not_zero, pivot_unique, pivot_pow, pivot_uncut}
use Rattle.gf2.proofs.Reduced.{space_pivot}
use Rattle.gf2.proofs.Products.{tabulate_row, is_tabulate, map_row, combine_identity, product_row, product_assoc, identity_product, product_identity}
use Rattle.gf2.proofs.Adjoin.{adjoin_left, adjoin_right, adjoin_names, adjoin_narrow, adjoin_length}

-- ---- one inverse

-- an inverse is one: X = X (A Y) = (X A) Y = Y
pub one_inverse : {n : ℕ} {A X Y : List ℕ} → Inverse n A X → Inverse n A Y → X ≡ Y
one_inverse {n} {A} {X} {Y} f g =
    sym (product_identity n X f.square.narrow) ∙ ap (product X) (sym g.right) ∙ sym (product_assoc X A Y)
    ∙ ap (λ (l : List ℕ). product l Y) f.left ∙ identity_product n Y g.square.size

-- ---- the test

same_true : (L M : List ℕ) → T (same L M) → L ≡ M
unfolding same
same_true [] [] t = refl
same_true [] (y ∷ M) t = absurd t
same_true (x ∷ L) [] t = absurd t
same_true (x ∷ L) (y ∷ M) t = go (eqb x y) refl t (same_true L M)
  where
    go : (b : Bool) → eqb x y ≡ b → T (b && same L M) → (T (same L M) → L ≡ M) → x ∷ L ≡ y ∷ M
    go true e t ih = ap₂ (λ (z : ℕ) (l : List ℕ). z ∷ l) (eqb-true x y e) (ih t)
    go false e t ih = absurd t

same_itself : (L : List ℕ) → T (same L L)
unfolding same
same_itself [] = tt
same_itself (x ∷ L) = go (eqb x x) (eqb_refl x) (same_itself L)
  where
    go : (b : Bool) → T b → T (same L L) → T (b && same L L)
    go true t ih = ih
    go false t ih = absurd t

pub begins_true : (n : ℕ) (M : List ℕ) → T (begins_with_identity n M) ↔ (left_of n M ≡ identity n)
begins_true n M = (same_true (left_of n M) (identity n), λ e. rw e (same_itself (identity n)))

pub left_row : (n : ℕ) (M : List ℕ) (i : ℕ) → row (left_of n M) i ≡ row M i % 2 ^ n
left_row n = map_row (λ v. v % 2 ^ n) (zero-mod (2 ^ n))

pub right_row : (n : ℕ) (M : List ℕ) (i : ℕ) → row (right_of n M) i ≡ row M i / 2 ^ n
right_row n = map_row (λ v. v / 2 ^ n) (zero-div (2 ^ n))

-- ---- an inverse, in the right half

-- where the first n columns are pivots, row i has pivot i
diagonal : (R : List ℕ) → Reduced R → (n : ℕ) → ((i : ℕ) → i < n → (k : ℕ) × Pivot i (row R k)) → (i : ℕ) → i < n → Pivot i (row R i)
diagonal R hR n h i l = go i l (h i l)
  where
    -- no row above a pivot's row is zero
    above : (a k q : ℕ) → Pivot q (row R k) → a < k → (p : ℕ) × Pivot p (row R a)
    above a k q f m = at (pivot_cases (row R a))
      where
        at : (row R a ≡ 0) ⊎ ((p : ℕ) × Pivot p (row R a)) → (p : ℕ) × Pivot p (row R a)
        at (inl z) = absurd (pivot_not_zero q (row R k) f (hR.last a k m z))
        at (inr t) = t

    go : (i : ℕ) → i < n → (k : ℕ) × Pivot i (row R k) → Pivot i (row R i)
    go zero l (k, f) = at (ℕ_discrete k 0)
      where
        at : Dec (k ≡ 0) → Pivot 0 (row R 0)
        at (yes e) = rw e at f
        at (no m) = let t = above 0 k 0 f (omega arith) in absurd (omega (arith, hR.rising 0 k t.0 0 (omega arith) t.1 f))
    go (suc i) l (k, f) = at (ℕ_discrete k (suc i)) (dec_lt (suc i) k) (go i (omega arith) (h i (omega arith)))
      where
        at : Dec (k ≡ suc i) → Dec (suc i < k) → Pivot i (row R i) → Pivot (suc i) (row R (suc i))
        at (yes e) _ g = rw e at f
        at (no m) (yes o) g =
            let t = above (suc i) k (suc i) f o in
            absurd (omega (arith, hR.rising i (suc i) i t.0 (omega arith) g t.1, hR.rising (suc i) k t.0 (suc i) o t.1 f))
        at (no m) (no o) g = absurd (low (ℕ_discrete k i))
          where
            low : Dec (k ≡ i) → ⊥
            low (yes e) = omega (arith, pivot_unique (suc i) i (row R i) (rw e at f) g)
            low (no q) = omega (arith, hR.rising k i (suc i) i (omega arith) f g)

module _ (n : ℕ) (A R : List ℕ) (hA : Matrix n n A) (form : ReducedForm (adjoin n A) R) where
  size : length R ≡ n
  size = form.size ∙ adjoin_length n A ∙ hA.size

  square : Matrix n n (right_of n R)
  square = record {
    size = length-map R (λ v. v / 2 ^ n) ∙ size;
    narrow = λ i. rw (right_row n R i) (shr_lt n n (rw hA.size at (same_narrow (n + length A) (adjoin n A) R form.space (adjoin_narrow n A hA.narrow) i)));
  }

  -- if it begins with the identity, the right half is the inverse
  pub right_half : left_of n R ≡ identity n → Inverse n A (right_of n R)
  right_half e = record {
    square = square;
    left = is_tabulate (product X A) n (λ i. 2 ^ i) (length-map X (λ a. combine a A) ∙ square.size) left;
    right = is_tabulate (product A X) n (λ i. 2 ^ i) (length-map A (λ a. combine a X) ∙ hA.size) right;
  }
    where
      X : List ℕ
      X = right_of n R

      left : (i : ℕ) → i < n → row (product X A) i ≡ 2 ^ i
      left i l =
          product_row X A i ∙ ap (λ (x : ℕ). combine x A) (right_row n R i)
          ∙ adjoin_names n A hA.narrow (row R i) (form.space.back (row R i) (space_row R i))
          ∙ sym (left_row n R i) ∙ ap (λ (M : List ℕ). row M i) e ∙ tabulate_row n (λ i. 2 ^ i) i l

      right : (i : ℕ) → i < n → row (product A X) i ≡ 2 ^ i
      right i l =
          let v : ℕ = combine (2 ^ i) (adjoin n A) in
          let s : RowSpace R v = form.space.to v (2 ^ i, refl) in
          let d : ℕ = s.0 in
          let a : row A i ≡ d % 2 ^ n =
          sym (combine_pow i A) ∙ sym (adjoin_left n A hA.narrow (2 ^ i)) ∙ ap (λ (x : ℕ). x % 2 ^ n) (sym s.1)
          ∙ sym (combine_map (λ v. v % 2 ^ n) (zero-mod (2 ^ n)) (λ a b. xor_mod a b n) d R) ∙ ap (combine d) e ∙ combine_identity d n in
          let b : combine d X ≡ 2 ^ i =
          combine_map (λ v. v / 2 ^ n) (zero-div (2 ^ n)) (λ a b. xor_shr a b n) d R ∙ ap (λ (x : ℕ). x / 2 ^ n) s.1
          ∙ adjoin_right n A hA.narrow (2 ^ i) ∙ rw hA.size (mod-eq_of_lt (pow-lt l)) in
          product_row A X i ∙ rw a (rw square.size at (combine_low d X)) ∙ b

  -- if anything times A is the identity, it begins with the identity
  pub begins_if : (X : List ℕ) → product X A ≡ identity n → left_of n R ≡ identity n
  begins_if X e = is_tabulate (left_of n R) n (λ i. 2 ^ i) (length-map R (λ v. v % 2 ^ n) ∙ size) (λ i l. left_row n R i ∙ unit i l)
    where
      column : (i : ℕ) → i < n → (k : ℕ) × Pivot i (row R k)
      column i l =
          let u : ℕ = combine (row X i) (adjoin n A) in
          let x : u % 2 ^ n ≡ 2 ^ i = adjoin_left n A hA.narrow (row X i) ∙ sym (product_row X A i) ∙ ap (λ (M : List ℕ). row M i) e ∙ tabulate_row n (λ i. 2 ^ i) i l in
          let t = space_pivot R form.reduced u i (form.space.to u (row X i, refl)) (pivot_uncut n i u l (rw x (pivot_pow i))) in
          (t.0, t.2)

      pivot_at : (i : ℕ) → i < n → Pivot i (row R i)
      pivot_at = diagonal R form.reduced n column

      unit : (i : ℕ) → i < n → row R i % 2 ^ n ≡ 2 ^ i
      unit i l = bit_ext (row R i % 2 ^ n) (2 ^ i) (λ c. go c (dec_lt c n) (ℕ_discrete c i))
        where
          go : (c : ℕ) → Dec (c < n) → Dec (c ≡ i) → bit c (row R i % 2 ^ n) ≡ bit c (2 ^ i)
          go c (yes m) (yes e) = bit_mod c n (row R i) m ∙ rw (e, bit_pow i) (pivot_at i l).one
          go c (yes m) (no e) = bit_mod c n (row R i) m ∙ form.reduced.alone c i c (pivot_at c m) (λ f. e (sym f)) ∙ sym (bit_pow_other c i e)
          go c (no m) e = bit_mod_above n c (row R i) (omega arith) ∙ sym (bit_pow_other c i (omega arith))

  -- an inverse exists exactly if the reduced form of [A | I] begins with the identity
  pub inverse_exists : ((X : List ℕ) × Inverse n A X) ↔ T (begins_with_identity n R)
  inverse_exists = (λ t. (begins_true n R).1 (begins_if t.0 t.1.left), λ t. (right_of n R, right_half ((begins_true n R).0 t)))

  -- and then it stands in its right half
  pub inverse_stands : (X : List ℕ) → Inverse n A X → X ≡ right_of n R
  inverse_stands X h = one_inverse h (right_half (begins_if X h.left))
