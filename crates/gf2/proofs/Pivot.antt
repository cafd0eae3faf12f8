-- The pivot of a row: there is one exactly if the row is not zero, and only one; and how a cut of the row shows where it stands.
use mathlib.Core.Path.{◌≡◌, refl, sym, ◌∙◌}
use mathlib.Core.Logic.{◌≢◌, ◌⊎◌, inl, inr}
use Prim.Native.Nat.{ℕ, zero, suc, ◌+◌, ◌-◌, ◌/◌, ◌%◌, ◌^◌, ◌≤◌, ◌<◌}
use native.Mathlib.Decide.{ℕ_discrete, dec_lt}
use native.Mathlib.Nat.{le_antisymm}
use native.Mathlib.Omega.{arith}
use lib.Count.{count_trailing_zeros, under}
use Rattle.gf2.specs.Rows.{bit}
use Rattle.gf2.specs.Reduced.{Pivot, zeros_in, pivot}
use Rattle.gf2.proofs.Bits.{digit_cases, half_lt, bit_low, bit_suc, bit_of_zero, bit_mod, bit_above, bit_mod_above, bit_shr, zero_ext, bit_pow, bit_pow_other}

-- ---- the computed pivot

pub pivot_suc : (p v : ℕ) → v % 2 ≡ 0 → Pivot p (v / 2) → Pivot (suc p) v
pivot_suc p v o f = record { one = bit_suc p v ∙ f.one; before = low }
  where
    low : (c : ℕ) → c < suc p → bit c v ≡ 0
    low zero h = bit_low v ∙ o
    low (suc c) h = bit_suc c v ∙ f.before c (omega arith)

-- read as a row, a number has its pivot where its trailing zeros end
pub trailing_pivot : (k n : ℕ) → n < 2 ^ k → n ≢ 0 → Pivot (count_trailing_zeros k n) n
unfolding count_trailing_zeros
trailing_pivot zero n h z = absurd (omega arith)
trailing_pivot (suc k) n h z = go (digit_cases (n % 2) (half_lt n)) (trailing_pivot k (n / 2) (omega arith))
  where
    go : (n % 2 ≡ 0) ⊎ (n % 2 ≡ 1) → (n / 2 ≢ 0 → Pivot (count_trailing_zeros k (n / 2)) (n / 2)) → Pivot (under (n % 2) (count_trailing_zeros k (n / 2))) n
    go (inl e) ih = rw e (pivot_suc (count_trailing_zeros k (n / 2)) n e (ih (omega arith)))
    go (inr e) ih = rw e (record { one = bit_low n ∙ e; before = λ c l. absurd (omega arith) })

zeros_pivot : (n b v : ℕ) → v % 2 ≡ b → v ≤ n → v ≢ 0 → Pivot (zeros_in n b v) v
unfolding zeros_in
zeros_pivot zero b v e h k = absurd (omega arith)
zeros_pivot (suc n) zero v e h k =
    pivot_suc (zeros_in n (v / 2 % 2) (v / 2)) v e (zeros_pivot n (v / 2 % 2) (v / 2) refl (omega arith) (omega arith))
zeros_pivot (suc n) (suc b) v e h k = record { one = bit_low v ∙ omega arith; before = λ c l. absurd (omega arith) }

pub pivot_is : (v : ℕ) → v ≢ 0 → Pivot (pivot v) v
unfolding pivot
pivot_is v k = zeros_pivot v (v % 2) v refl (omega arith) k

-- ---- one, exactly if the row is not zero

pub pivot_cases : (v : ℕ) → (v ≡ 0) ⊎ ((p : ℕ) × Pivot p v)
pivot_cases v = go (ℕ_discrete v 0)
  where
    go : Dec (v ≡ 0) → (v ≡ 0) ⊎ ((p : ℕ) × Pivot p v)
    go (yes e) = inl e
    go (no k) = inr (pivot v, pivot_is v k)

pub pivot_not_zero : (p v : ℕ) → Pivot p v → v ≢ 0
pivot_not_zero p v f e = omega (arith, bit_of_zero p, rw e at f.one)

pub no_pivot : (p : ℕ) {A : Type 0} → Pivot p 0 → A
no_pivot p f = absurd (pivot_not_zero p 0 f refl)

pub pivot_unique : (p q v : ℕ) → Pivot p v → Pivot q v → p ≡ q
pivot_unique p q v f g = le_antisymm (le p q f g) (le q p g f)
  where
    le : (p q : ℕ) → Pivot p v → Pivot q v → p ≤ q
    le p q f g = go (dec_lt q p)
      where
        go : Dec (q < p) → p ≤ q
        go (yes l) = absurd (omega (arith, f.before q l, g.one))
        go (no k) = omega arith

pub pivot_pow : (i : ℕ) → Pivot i (2 ^ i)
pivot_pow i = record { one = bit_pow i; before = λ c l. bit_pow_other c i (omega arith) }

-- ---- seen in the columns left of n, and in those from n on

-- a pivot left of column n is that of the row cut there
pub pivot_cut : (n q v : ℕ) → q < n → Pivot q v → Pivot q (v % 2 ^ n)
pivot_cut n q v l f = record { one = bit_mod q n v l ∙ f.one; before = λ c h. bit_mod c n v (omega arith) ∙ f.before c h }

pub pivot_uncut : (n q v : ℕ) → q < n → Pivot q (v % 2 ^ n) → Pivot q v
pivot_uncut n q v l f = record { one = sym (bit_mod q n v l) ∙ f.one; before = λ c h. sym (bit_mod c n v (omega arith)) ∙ f.before c h }

-- nothing stands left of column n exactly if the pivot does not
pub cut_zero : (n q v : ℕ) → n ≤ q → Pivot q v → v % 2 ^ n ≡ 0
cut_zero n q v l f = zero_ext (v % 2 ^ n) (λ c. go c (dec_lt c n))
  where
    go : (c : ℕ) → Dec (c < n) → bit c (v % 2 ^ n) ≡ 0
    go c (yes h) = bit_mod c n v h ∙ f.before c (omega arith)
    go c (no h) = bit_mod_above n c v (omega arith)

pub zero_cut : (n q v : ℕ) → v % 2 ^ n ≡ 0 → Pivot q v → n ≤ q
zero_cut n q v e f = go (dec_lt q n)
  where
    go : Dec (q < n) → n ≤ q
    go (yes l) = absurd (pivot_not_zero q (v % 2 ^ n) (pivot_cut n q v l f) e)
    go (no k) = omega arith

-- then something stands from column n on
pub high_not_zero : (n q v : ℕ) → n ≤ q → Pivot q v → v / 2 ^ n ≢ 0
high_not_zero n q v l f e =
    let i : n + (q - n) ≡ q = omega arith in
    omega (arith, bit_of_zero (q - n), rw (e, i, f.one) at (bit_shr (q - n) n v))

-- the pivot of a row of n columns is one of them
pub pivot_narrow : (n q v : ℕ) → v < 2 ^ n → Pivot q v → q < n
pivot_narrow n q v h f = go (dec_lt q n)
  where
    go : Dec (q < n) → q < n
    go (yes l) = l
    go (no k) = absurd (omega (arith, f.one, bit_above n q v h (omega arith)))
