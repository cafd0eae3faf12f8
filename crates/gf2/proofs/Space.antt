-- Sums of rows, the row space, and that exchanging two rows leaves it as it is.
use mathlib.Core.Path.{◌≡◌, refl, sym, ◌∙◌, subst}
use mathlib.Core.Logic.{◌≢◌, ◌⊎◌, inl, inr}
use mathlib.Core.List.{List, [], ◌∷◌, map}
use Prim.Native.Nat.{ℕ, zero, suc, ◌/◌, ◌%◌, ◌^◌, ◌<◌}
use native.Mathlib.Decide.{ℕ_discrete, dec_lt}
use native.Mathlib.Nat.{zero-lt-suc, pow-succ', mul-div_cancel_left, mul-mod_right}
use native.Mathlib.Omega.{arith}
use lib.Bits.{differ, xor_self, xor_zero_l, xor_zero_r, xor_lt}
use lib.ListN.{get_or-eq_default, length-set, length, set}
use lib.Pow.{pow_pos}
use lib.Seq.{get_or-set_same, get_or-set_other}
use Rattle.gf2.specs.Rows.{bit, ◌⊕◌, row, swapped, pick, combine, RowSpace, SameRowSpace}
use Rattle.gf2.proofs.Bits.{digit_cases, half_lt, bit_low, bit_suc, bit_xor, bit_mod, bit_pow, bit_pow_other, differ_zero, differ_self, xor_last, xor_half, xor_four, eq_of_xor}

-- ---- a row that counts or not

pub pick_zero : (b : ℕ) → pick b 0 ≡ 0
unfolding pick
pick_zero zero = refl
pick_zero (suc b) = refl

pick_differ : (x y r : ℕ) → x < 2 → y < 2 → pick (differ x y) r ≡ pick x r ⊕ pick y r
unfolding pick
pick_differ x y r hx hy = go (digit_cases x hx) (digit_cases y hy)
  where
    go : (x ≡ 0) ⊎ (x ≡ 1) → (y ≡ 0) ⊎ (y ≡ 1) → pick (differ x y) r ≡ pick x r ⊕ pick y r
    go (inl e) (inl f) = rw (e, f, xor_zero_l 0)
    go (inl e) (inr f) = rw (e, f, xor_zero_l r)
    go (inr e) (inl f) = rw (e, f, xor_zero_r r)
    go (inr e) (inr f) = rw (e, f, xor_self r)

pub pick_sum : (b x y : ℕ) → pick b (x ⊕ y) ≡ pick b x ⊕ pick b y
unfolding pick
pick_sum zero x y = sym (xor_zero_r 0)
pick_sum (suc b) x y = refl

pub pick_map : (f : ℕ → ℕ) → f 0 ≡ 0 → (b r : ℕ) → pick b (f r) ≡ f (pick b r)
unfolding pick
pick_map f z zero r = sym z
pick_map f z (suc b) r = refl

-- what holds of zero and of the row
pub pick_each : (P : ℕ → Type 0) (b r : ℕ) → P 0 → P r → P (pick b r)
unfolding pick
pick_each P zero r z h = z
pick_each P (suc b) r z h = h

-- ---- sums of rows

pub combine_zero : (L : List ℕ) → combine 0 L ≡ 0
unfolding combine
combine_zero [] = refl
combine_zero (r ∷ L) = xor_zero_l (combine 0 L) ∙ combine_zero L

-- of two sums of rows, the sum
pub combine_xor : (c d : ℕ) (L : List ℕ) → combine (c ⊕ d) L ≡ combine c L ⊕ combine d L
unfolding combine
combine_xor c d [] = sym (xor_zero_l 0)
combine_xor c d (r ∷ L) =
    rw (xor_last c d, xor_half c d, pick_differ (c % 2) (d % 2) r (half_lt c) (half_lt d), combine_xor (c / 2) (d / 2) L)
    (xor_four (pick (c % 2) r) (pick (d % 2) r) (combine (c / 2) L) (combine (d / 2) L))

-- one row
pub combine_pow : (i : ℕ) (L : List ℕ) → combine (2 ^ i) L ≡ row L i
unfolding combine
combine_pow i [] = refl
combine_pow zero (r ∷ L) = rw (combine_zero L, xor_zero_r r)
combine_pow (suc i) (r ∷ L) =
    rw (pow-succ' 2 i, mul-mod_right 2 (2 ^ i), mul-div_cancel_left (2 ^ i) {n = 2} (zero-lt-suc 1), xor_zero_l (combine (2 ^ i) L)) (combine_pow i L)

-- no row that counts is other than zero
pub combine_none : (c : ℕ) (L : List ℕ) → ((j : ℕ) → pick (bit j c) (row L j) ≡ 0) → combine c L ≡ 0
unfolding combine
combine_none c [] h = refl
combine_none c (r ∷ L) h =
    let a : pick (c % 2) r ≡ 0 = rw bit_low at (h 0) in
    let b : combine (c / 2) L ≡ 0 = combine_none (c / 2) L (λ j. rw bit_suc at (h (suc j))) in
    rw (a, b) (xor_zero_r 0)

-- row p counts, and no other row that counts is other than zero
pub combine_only : (c p : ℕ) (L : List ℕ) → bit p c ≡ 1 → ((j : ℕ) → j ≢ p → pick (bit j c) (row L j) ≡ 0) → combine c L ≡ row L p
unfolding pick
combine_only c p L o h =
    let z : combine (c ⊕ 2 ^ p) L ≡ 0 = combine_none (c ⊕ 2 ^ p) L (λ j. go j (ℕ_discrete j p)) in
    eq_of_xor (combine c L) (row L p) (rw (combine_xor c (2 ^ p) L, combine_pow p L) at z)
  where
    go : (j : ℕ) → Dec (j ≡ p) → pick (bit j (c ⊕ 2 ^ p)) (row L j) ≡ 0
    go j (yes e) = rw (e, bit_xor p c (2 ^ p), o, bit_pow p)
    go j (no n) = rw (bit_xor j c (2 ^ p), bit_pow_other j p n, differ_zero (bit j c)) (h j n)

-- only as many columns of c count as there are rows
pub combine_low : (c : ℕ) (L : List ℕ) → combine (c % 2 ^ length L) L ≡ combine c L
unfolding pick
combine_low c L = eq_of_xor (combine (c % 2 ^ length L) L) (combine c L) (sym (combine_xor (c % 2 ^ length L) c L) ∙ combine_none (c % 2 ^ length L ⊕ c) L (λ j. go j (dec_lt j (length L))))
  where
    go : (j : ℕ) → Dec (j < length L) → pick (bit j (c % 2 ^ length L ⊕ c)) (row L j) ≡ 0
    go j (yes l) = rw (bit_xor j (c % 2 ^ length L) c, bit_mod j (length L) c l, differ_self (bit j c))
    go j (no n) = rw (get_or-eq_default L 0 {n = j} (omega arith)) (pick_zero (bit j (c % 2 ^ length L ⊕ c)))

-- a sum goes through whatever keeps zero and sums
pub combine_map : (f : ℕ → ℕ) → f 0 ≡ 0 → ((a b : ℕ) → f (a ⊕ b) ≡ f a ⊕ f b) → (c : ℕ) (L : List ℕ) → combine c (map f L) ≡ f (combine c L)
unfolding combine
combine_map f z s c [] = sym z
combine_map f z s c (r ∷ L) = rw (s, combine_map f z s (c / 2) L, pick_map f z (c % 2) r)

-- ---- the row space

pub space_zero : (L : List ℕ) → RowSpace L 0
space_zero L = (0, combine_zero L)

pub space_row : (L : List ℕ) (i : ℕ) → RowSpace L (row L i)
space_row L i = (2 ^ i, combine_pow i L)

pub space_xor : (L : List ℕ) (u v : ℕ) → RowSpace L u → RowSpace L v → RowSpace L (u ⊕ v)
space_xor L u v p q = (p.0 ⊕ q.0, rw (combine_xor p.0 q.0 L, p.1, q.1))

-- what holds of zero, of each row, and of a sum if of its parts, holds in the whole row space
pub space_ind : (P : ℕ → Type 0) (L : List ℕ) → P 0 → ((a b : ℕ) → P a → P b → P (a ⊕ b)) → ((i : ℕ) → P (row L i)) → (v : ℕ) → RowSpace L v → P v
unfolding combine
space_ind P L z s h v (c, e) = subst P e (go c L h)
  where
    go : (c : ℕ) (L : List ℕ) → ((i : ℕ) → P (row L i)) → P (combine c L)
    go c [] h = z
    go c (r ∷ L) h = s (pick (c % 2) r) (combine (c / 2) L) (pick_each P (c % 2) r z (h 0)) (go (c / 2) L (λ i. h (suc i)))

-- a list whose rows are in the row space of M has no other row space
pub space_sub : (L M : List ℕ) → ((i : ℕ) → RowSpace M (row L i)) → (v : ℕ) → RowSpace L v → RowSpace M v
space_sub L M h = space_ind (RowSpace M) L (space_zero M) (space_xor M) h

pub same_refl : (L : List ℕ) → SameRowSpace L L
same_refl L = record { to = λ v s. s; back = λ v s. s }

pub same_sym : {L M : List ℕ} → SameRowSpace L M → SameRowSpace M L
same_sym h = record { to = h.back; back = h.to }

pub same_trans : {L M N : List ℕ} → SameRowSpace L M → SameRowSpace M N → SameRowSpace L N
same_trans h k = record { to = λ v s. k.to v (h.to v s); back = λ v s. h.back v (k.back v s) }

pub same_rows : (L M : List ℕ) → ((i : ℕ) → RowSpace M (row L i)) → ((i : ℕ) → RowSpace L (row M i)) → SameRowSpace L M
same_rows L M h k = record { to = space_sub L M h; back = space_sub M L k }

-- no column is added: sums of rows of n columns have n columns
pub space_narrow : (n : ℕ) (L : List ℕ) → ((i : ℕ) → row L i < 2 ^ n) → (v : ℕ) → RowSpace L v → v < 2 ^ n
space_narrow n L h = space_ind (λ (v : ℕ). v < 2 ^ n) L (pow_pos n) (xor_lt n) h

pub same_narrow : (n : ℕ) (L M : List ℕ) → SameRowSpace L M → ((i : ℕ) → row L i < 2 ^ n) → (i : ℕ) → row M i < 2 ^ n
same_narrow n L M s h i = space_narrow n L h (row M i) (s.back (row M i) (space_row M i))

-- ---- one row more

pub space_cons : (r : ℕ) (L : List ℕ) (v : ℕ) → RowSpace L v → RowSpace (r ∷ L) v
space_cons r L = space_sub L (r ∷ L) (λ i. space_row (r ∷ L) (suc i))

-- a sum of rows of r ∷ L is one of L, or r and one of L
pub space_uncons : (r : ℕ) (L : List ℕ) (v : ℕ) → RowSpace (r ∷ L) v → RowSpace L v ⊎ ((w : ℕ) × RowSpace L w × (v ≡ r ⊕ w))
unfolding combine pick
space_uncons r L v (c, e) = go (digit_cases (c % 2) (half_lt c))
  where
    go : (c % 2 ≡ 0) ⊎ (c % 2 ≡ 1) → RowSpace L v ⊎ ((w : ℕ) × RowSpace L w × (v ≡ r ⊕ w))
    go (inl o) = inl (c / 2, sym (xor_zero_l (combine (c / 2) L)) ∙ (rw o at e))
    go (inr o) = inr (combine (c / 2) L, (c / 2, refl), sym (rw o at e))

pub each_cons : (P : ℕ → Type 0) (r : ℕ) (L : List ℕ) → P r → ((i : ℕ) → P (row L i)) → (i : ℕ) → P (row (r ∷ L) i)
each_cons P r L a b zero = a
each_cons P r L a b (suc i) = b i

-- ---- one row replaced

-- what holds of the stored row and of each other row holds of each row after the store
each_set : (P : ℕ → Type 0) (L : List ℕ) (i a : ℕ) → i < length L → P a → ((k : ℕ) → k ≢ i → P (row L k)) → (k : ℕ) → P (row (set L i a) k)
each_set P L i a h pa pk k = go (ℕ_discrete k i)
  where
    go : Dec (k ≡ i) → P (row (set L i a) k)
    go (yes e) = rw (e, get_or-set_same L i a 0 h) pa
    go (no n) = rw (get_or-set_other L i k a 0 n) (pk k n)

-- what holds of row i and of each other row holds of each row
each_but : (P : ℕ → Type 0) (L : List ℕ) (i : ℕ) → P (row L i) → ((k : ℕ) → k ≢ i → P (row L k)) → (k : ℕ) → P (row L k)
each_but P L i pi pk k = go (ℕ_discrete k i)
  where
    go : Dec (k ≡ i) → P (row L k)
    go (yes e) = rw e pi
    go (no n) = pk k n

space_other : (L : List ℕ) (i a k : ℕ) → k ≢ i → RowSpace (set L i a) (row L k)
space_other L i a k n = rw (get_or-set_other L i k a 0 n) at (space_row (set L i a) k)

space_stored : (L : List ℕ) (i a : ℕ) → i < length L → RowSpace (set L i a) a
space_stored L i a h = rw (get_or-set_same L i a 0 h) at (space_row (set L i a) i)

-- exchanging two rows leaves the row space as it was
pub swap_rows : (L : List ℕ) (i j : ℕ) → i < length L → j < length L → SameRowSpace (swapped i j L) L
swap_rows L i j hi hj =
    same_rows N L
    (each_set (RowSpace L) K j (row L i) hk (space_row L i) (λ k n. each_set (RowSpace L) L i (row L j) hi (space_row L j) (λ m o. space_row L m) k))
    (each_but (RowSpace N) L i (space_stored K j (row L i) hk) (λ k n. go k n (ℕ_discrete k j)))
  where
    K : List ℕ
    K = set L i (row L j)

    N : List ℕ
    N = set K j (row L i)

    hk : j < length K
    hk = rw length-set hj

    go : (k : ℕ) → k ≢ i → Dec (k ≡ j) → RowSpace N (row L k)
    go k n (yes e) = rw e (rw (get_or-set_same L i (row L j) 0 hi) at (space_other K j (row L i) i (λ f. n (e ∙ sym f))))
    go k n (no m) = rw (get_or-set_other L i k (row L j) 0 n) at (space_other K j (row L i) k m)
