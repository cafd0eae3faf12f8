-- Column by column: a column is passed over or gets a pivot; when all columns are done, the matrix is reduced.
use mathlib.Core.Path.{◌≡◌, sym, ◌∙◌}
use mathlib.Core.Logic.{◌≢◌, ◌⊎◌, inl, inr}
use mathlib.Core.List.{List}
use Prim.Native.Nat.{ℕ, suc, ◌^◌, ◌≤◌, ◌<◌}
use native.Mathlib.Decide.{ℕ_discrete, dec_lt}
use native.Mathlib.Omega.{arith}
use lib.Bits.{xor_zero_r}
use Rattle.gf2.specs.Rows.{bit, ◌⊕◌, row, pick}
use Rattle.gf2.specs.Reduced.{Pivot, Reduced}
use Rattle.gf2.proofs.Bits.{zero_ext, bit_of_zero, bit_xor, bit_cases, bit_above, differ_zero}
use Rattle.gf2.proofs.Space.{pick_each}
use Rattle.gf2.proofs.Pivot.{pivot_unique, pivot_not_zero}
use Rattle.method.specs.Stage.{Upto}

-- no column is done yet
pub upto_start : (M : List ℕ) → Upto 0 0 M
upto_start M = record {
  used = λ i h. absurd (omega arith);
  rising = λ i j p q h k. absurd (omega arith);
  alone = λ i j p h. absurd (omega arith);
  rest = λ i x h k. absurd (omega arith);
}

-- columns in which no row from r on has a one are passed over
upto_more : (c d r : ℕ) (M : List ℕ) → Upto c r M → c ≤ d → ((i x : ℕ) → r ≤ i → c ≤ x → x < d → bit x (row M i) ≡ 0) → Upto d r M
upto_more c d r M u h none = record {
  used = λ i l. let t = u.used i l in (t.0, omega (arith, t.1), t.2);
  rising = u.rising;
  alone = u.alone;
  rest = λ i x l m. go i x l m (dec_lt x c);
}
  where
    go : (i x : ℕ) → r ≤ i → x < d → Dec (x < c) → bit x (row M i) ≡ 0
    go i x l m (yes k) = u.rest i x l k
    go i x l m (no k) = none i x l (omega arith) m

pub upto_pass : (c r : ℕ) (M : List ℕ) → Upto c r M → ((i : ℕ) → r ≤ i → bit c (row M i) ≡ 0) → Upto (suc c) r M
upto_pass c r M u h = upto_more c (suc c) r M u (omega arith) (λ i x l a b. let e : x ≡ c = omega arith in rw e (h i l))

-- so are columns past the last
pub upto_past : (c d r n : ℕ) (M : List ℕ) → Upto c r M → c ≤ d → n ≤ c → ((i : ℕ) → row M i < 2 ^ n) → Upto d r M
upto_past c d r n M u h hn narrow = upto_more c d r M u h (λ i x l a b. bit_above n x (row M i) (narrow i) (omega arith))

-- rows that have no pivot yet may become any that have no one in the columns done
pub upto_tail : (c r : ℕ) (M N : List ℕ) → Upto c r M → ((k : ℕ) → k < r → row N k ≡ row M k) → ((k x : ℕ) → r ≤ k → x < c → bit x (row N k) ≡ 0) → Upto c r N
upto_tail c r M N u front back = record {
  used = λ i h. let t = u.used i h in (t.0, t.1, rw (front i h) t.2);
  rising = λ i j p q h k f g. u.rising i j p q h k (rw (front i (omega arith)) at f) (rw (front j k) at g);
  alone = alone;
  rest = back;
}
  where
    alone : (i j p : ℕ) → i < r → Pivot p (row N i) → j ≢ i → bit p (row N j) ≡ 0
    alone i j p h f n = go (dec_lt j r)
      where
        go : Dec (j < r) → bit p (row N j) ≡ 0
        go (yes l) = rw (front j l) (u.alone i j p h (rw (front i h) at f) n)
        go (no l) =
            let t = u.used i h in
            back j p (omega arith) (omega (arith, t.1, pivot_unique p t.0 (row M i) (rw (front i h) at f) t.2))

-- ---- a pivot: row r has a one in column c, and every other row has been cleared there by it

module _ (c r : ℕ) (M N : List ℕ) (u : Upto c r M) (o : bit c (row M r) ≡ 1) (own : row N r ≡ row M r)
    (others : (i : ℕ) → i ≢ r → row N i ≡ row M i ⊕ pick (bit c (row M i)) (row M r)) where
  pub pivot_here : Pivot c (row N r)
  pivot_here = rw own (record { one = o; before = λ x h. u.rest r x (omega arith) h })

  keeps : (i x : ℕ) → x < c → bit x (row N i) ≡ bit x (row M i)
  keeps i x h = go (ℕ_discrete i r)
    where
      low : bit x (pick (bit c (row M i)) (row M r)) ≡ 0
      low = pick_each (λ (v : ℕ). bit x v ≡ 0) (bit c (row M i)) (row M r) (bit_of_zero x) (u.rest r x (omega arith) h)

      go : Dec (i ≡ r) → bit x (row N i) ≡ bit x (row M i)
      go (yes e) = rw (e, own)
      go (no n) = rw (others i n, bit_xor x (row M i) (pick (bit c (row M i)) (row M r)), low) (differ_zero (bit x (row M i)))

  cleared : (i : ℕ) → i ≢ r → bit c (row N i) ≡ 0
  unfolding pick
  cleared i n = go (bit_cases c (row M i))
    where
      go : (bit c (row M i) ≡ 0) ⊎ (bit c (row M i) ≡ 1) → bit c (row N i) ≡ 0
      go (inl e) = rw (others i n, e, xor_zero_r (row M i)) e
      go (inr e) = rw (others i n, e, bit_xor c (row M i) (row M r), e, o)

  -- a pivot left of column c stays where it is
  pub pivot_stays : (i p : ℕ) → p < c → Pivot p (row M i) → Pivot p (row N i)
  pivot_stays i p h f = record { one = keeps i p h ∙ f.one; before = λ x l. keeps i x (omega arith) ∙ f.before x l }

  -- and was there before
  pivot_was : (i p : ℕ) → p < c → Pivot p (row N i) → Pivot p (row M i)
  pivot_was i p h f = record { one = sym (keeps i p h) ∙ f.one; before = λ x l. sym (keeps i x (omega arith)) ∙ f.before x l }

  -- the pivots of the rows above r stand there
  left : (i p : ℕ) → i < r → Pivot p (row N i) → p < c
  left i p h f = let t = u.used i h in omega (arith, t.1, pivot_unique p t.0 (row N i) f (pivot_stays i t.0 t.1 t.2))

  pub upto_pivot : Upto (suc c) (suc r) N
  upto_pivot = record { used = used; rising = rising; alone = alone; rest = rest }
    where
      used : (i : ℕ) → i < suc r → (p : ℕ) × (p < suc c) × Pivot p (row N i)
      used i h = go (ℕ_discrete i r)
        where
          go : Dec (i ≡ r) → (p : ℕ) × (p < suc c) × Pivot p (row N i)
          go (yes e) = (c, omega arith, rw e pivot_here)
          go (no n) = let t = u.used i (omega arith) in (t.0, omega (arith, t.1), pivot_stays i t.0 t.1 t.2)

      rising : (i j p q : ℕ) → i < j → j < suc r → Pivot p (row N i) → Pivot q (row N j) → p < q
      rising i j p q h l f g = go (ℕ_discrete j r)
        where
          go : Dec (j ≡ r) → p < q
          go (yes e) = omega (arith, left i p (omega arith) f, pivot_unique q c (row N r) (rw e at g) pivot_here)
          go (no n) = u.rising i j p q h (omega arith) (pivot_was i p (left i p (omega arith) f) f) (pivot_was j q (left j q (omega arith) g) g)

      alone : (i j p : ℕ) → i < suc r → Pivot p (row N i) → j ≢ i → bit p (row N j) ≡ 0
      alone i j p h f n = go (ℕ_discrete i r)
        where
          go : Dec (i ≡ r) → bit p (row N j) ≡ 0
          go (yes e) = rw (pivot_unique p c (row N r) (rw e at f) pivot_here) (cleared j (λ k. n (k ∙ sym e)))
          go (no m) = let l : p < c = left i p (omega arith) f in keeps j p l ∙ u.alone i j p (omega arith) (pivot_was i p l f) n

      rest : (i x : ℕ) → suc r ≤ i → x < suc c → bit x (row N i) ≡ 0
      rest i x h l = go (ℕ_discrete x c)
        where
          go : Dec (x ≡ c) → bit x (row N i) ≡ 0
          go (yes e) = rw e (cleared i (omega arith))
          go (no n) = keeps i x (omega arith) ∙ u.rest i x (omega arith) (omega arith)

-- ---- all columns done

-- the rows without pivot are zero
pub upto_zero : (n r : ℕ) (M : List ℕ) → Upto n r M → ((i : ℕ) → row M i < 2 ^ n) → (i : ℕ) → r ≤ i → row M i ≡ 0
upto_zero n r M u narrow i h = zero_ext (row M i) (λ c. go c (dec_lt c n))
  where
    go : (c : ℕ) → Dec (c < n) → bit c (row M i) ≡ 0
    go c (yes l) = u.rest i c h l
    go c (no l) = bit_above n c (row M i) (narrow i) (omega arith)

pub upto_done : (n r : ℕ) (M : List ℕ) → Upto n r M → ((i : ℕ) → row M i < 2 ^ n) → Reduced M
upto_done n r M u narrow = record { last = last; rising = rising; alone = alone }
  where
    zeros : (i : ℕ) → r ≤ i → row M i ≡ 0
    zeros = upto_zero n r M u narrow

    is_used : (i p : ℕ) → Pivot p (row M i) → i < r
    is_used i p f = go (dec_lt i r)
      where
        go : Dec (i < r) → i < r
        go (yes l) = l
        go (no l) = absurd (pivot_not_zero p (row M i) f (zeros i (omega arith)))

    last : (i j : ℕ) → i < j → row M i ≡ 0 → row M j ≡ 0
    last i j h e = go (dec_lt i r)
      where
        go : Dec (i < r) → row M j ≡ 0
        go (yes l) = let t = u.used i l in absurd (pivot_not_zero t.0 (row M i) t.2 e)
        go (no l) = zeros j (omega arith)

    rising : (i j p q : ℕ) → i < j → Pivot p (row M i) → Pivot q (row M j) → p < q
    rising i j p q h f g = u.rising i j p q h (is_used j q g) f g

    alone : (i j p : ℕ) → Pivot p (row M i) → j ≢ i → bit p (row M j) ≡ 0
    alone i j p f n = u.alone i j p (is_used i p f) f n
