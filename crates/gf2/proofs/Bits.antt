-- Rows by their columns: a sum's columns, when two rows are the same, the columns of 2 ^ c, of the low part and of the high part.
use mathlib.Core.Path.{◌≡◌, refl, sym, ap, ◌∙◌}
use mathlib.Core.Logic.{◌≢◌, ◌⊎◌, inl, inr}
use Prim.Native.Nat.{ℕ, zero, suc, ◌+◌, ◌/◌, ◌%◌, ◌^◌, ◌≤◌, ◌<◌}
use native.Mathlib.Nat.{lt_of_lt_of_le, mul-div_cancel_left, mul-mod_right, one-mul, mod-lt, zero-div, div-one, div-div-eq-div-mul, pow-succ', div-eq_of_lt, zero-lt-suc, div-lt_iff_lt-mul}
use native.Mathlib.Numerals.{add-one}
use native.Mathlib.Omega.{arith}
use lib.Arith.{bin_ind, digits_mod}
use lib.Bits.{differ, xor_step, xor_shr, xor_self, xor_comm, xor_zero_l, xor_zero_r}
use lib.Pow.{mod-mod-pow, field, pow_pos, pow_mono, pow-add}
use Rattle.gf2.specs.Rows.{bit, ◌⊕◌}

-- ---- digits

pub digit_cases : (x : ℕ) → x < 2 → (x ≡ 0) ⊎ (x ≡ 1)
digit_cases zero h = inl refl
digit_cases (suc zero) h = inr refl
digit_cases (suc (suc x)) h = absurd (omega arith)

pub half_lt : (v : ℕ) → v % 2 < 2
half_lt v = mod-lt v (zero-lt-suc 1)

pub bit_lt : (c v : ℕ) → bit c v < 2
bit_lt c v = half_lt (v / 2 ^ c)

pub bit_cases : (c v : ℕ) → (bit c v ≡ 0) ⊎ (bit c v ≡ 1)
bit_cases c v = digit_cases (bit c v) (bit_lt c v)

pub bit_of_zero : (c : ℕ) → bit c 0 ≡ 0
bit_of_zero c = ap (λ (x : ℕ). x % 2) (zero-div (2 ^ c))

pub bit_low : (v : ℕ) → bit 0 v ≡ v % 2
bit_low v = ap (λ (x : ℕ). x % 2) (div-one v)

pub bit_suc : (c v : ℕ) → bit (suc c) v ≡ bit c (v / 2)
bit_suc c v = rw (pow-succ' 2 c, div-div-eq-div-mul v 2 (2 ^ c))

-- two digits differ exactly if their sum is odd
pub differ_sum : (x y : ℕ) → x < 2 → y < 2 → differ x y ≡ (x + y) % 2
differ_sum x y hx hy = go (digit_cases x hx) (digit_cases y hy)
  where
    go : (x ≡ 0) ⊎ (x ≡ 1) → (y ≡ 0) ⊎ (y ≡ 1) → differ x y ≡ (x + y) % 2
    go (inl e) (inl f) = rw (e, f)
    go (inl e) (inr f) = rw (e, f)
    go (inr e) (inl f) = rw (e, f)
    go (inr e) (inr f) = rw (e, f)

pub differ_zero : (x : ℕ) → differ x 0 ≡ x
differ_zero zero = refl
differ_zero (suc x) = refl

pub differ_self : (x : ℕ) → differ x x ≡ 0
differ_self zero = refl
differ_self (suc x) = differ_self x

-- ---- the columns of a sum

pub xor_last : (a b : ℕ) → (a ⊕ b) % 2 ≡ differ (a % 2) (b % 2)
xor_last a b = rw (xor_step a b) (digits_mod (a / 2 ⊕ b / 2) (rw (differ_sum (a % 2) (b % 2) (half_lt a) (half_lt b)) (half_lt (a % 2 + b % 2))))

pub xor_half : (a b : ℕ) → (a ⊕ b) / 2 ≡ a / 2 ⊕ b / 2
xor_half a b = xor_shr a b 1

-- a column of the sum is one where the two rows differ
pub bit_xor : (c a b : ℕ) → bit c (a ⊕ b) ≡ differ (bit c a) (bit c b)
bit_xor c a b = rw (xor_shr a b c) (xor_last (a / 2 ^ c) (b / 2 ^ c))

-- it is the sum of the two columns, in the field of two elements
pub bit_sum : (c a b : ℕ) → bit c (a ⊕ b) ≡ (bit c a + bit c b) % 2
bit_sum c a b = bit_xor c a b ∙ differ_sum (bit c a) (bit c b) (bit_lt c a) (bit_lt c b)

-- ---- two rows with the same columns are the same

pub zero_ext : (v : ℕ) → ((c : ℕ) → bit c v ≡ 0) → v ≡ 0
zero_ext v h = bin_ind (λ (n : ℕ). ((c : ℕ) → bit c n ≡ 0) → n ≡ 0) (λ _. refl) step v h
  where
    step : (n : ℕ) → (((c : ℕ) → bit c (n / 2) ≡ 0) → n / 2 ≡ 0) → ((c : ℕ) → bit c n ≡ 0) → n ≡ 0
    step n ih k =
        let e : n / 2 ≡ 0 = ih (λ c. sym (bit_suc c n) ∙ k (suc c)) in
        let o : n % 2 ≡ 0 = sym (bit_low n) ∙ k 0 in
        omega arith

pub bit_ext : (a b : ℕ) → ((c : ℕ) → bit c a ≡ bit c b) → a ≡ b
bit_ext a = bin_ind (λ (n : ℕ). (b : ℕ) → ((c : ℕ) → bit c n ≡ bit c b) → n ≡ b) base step a
  where
    base : (b : ℕ) → ((c : ℕ) → bit c 0 ≡ bit c b) → 0 ≡ b
    base b h = sym (zero_ext b (λ c. sym (h c) ∙ bit_of_zero c))

    step : (n : ℕ) → ((b : ℕ) → ((c : ℕ) → bit c (n / 2) ≡ bit c b) → n / 2 ≡ b) → (b : ℕ) → ((c : ℕ) → bit c n ≡ bit c b) → n ≡ b
    step n ih b h =
        let e : n / 2 ≡ b / 2 = ih (b / 2) (λ c. sym (bit_suc c n) ∙ h (suc c) ∙ bit_suc c b) in
        let o : n % 2 ≡ b % 2 = sym (bit_low n) ∙ h 0 ∙ bit_low b in
        omega arith

-- ---- sums in any order

odd_assoc : (x y z : ℕ) → ((x + y) % 2 + z) % 2 ≡ (x + (y + z) % 2) % 2
odd_assoc x y z = omega arith

pub xor_assoc : (a b c : ℕ) → a ⊕ b ⊕ c ≡ a ⊕ (b ⊕ c)
xor_assoc a b c = bit_ext (a ⊕ b ⊕ c) (a ⊕ (b ⊕ c)) (λ i. simp bit_sum (odd_assoc (bit i a) (bit i b) (bit i c)))

pub xor_left : (a b c : ℕ) → a ⊕ (b ⊕ c) ≡ b ⊕ (a ⊕ c)
xor_left a b c = rw (← (xor_assoc a b c), xor_comm a b, xor_assoc b a c)

pub xor_cancel : (a b : ℕ) → a ⊕ (a ⊕ b) ≡ b
xor_cancel a b = rw (← (xor_assoc a a b), xor_self a, xor_zero_l b)

pub ruleset xor-ac = (xor_assoc, xor_comm, xor_left, xor_self, xor_zero_r, xor_zero_l, xor_cancel)

pub xor_back : (a b : ℕ) → a ⊕ b ⊕ b ≡ a
xor_back a b = simp xor-ac

pub xor_mid : (a u b : ℕ) → (a ⊕ u) ⊕ (u ⊕ b) ≡ a ⊕ b
xor_mid a u b = simp xor-ac

pub xor_four : (a b c d : ℕ) → (a ⊕ b) ⊕ (c ⊕ d) ≡ (a ⊕ c) ⊕ (b ⊕ d)
xor_four a b c d = simp xor-ac

pub eq_of_xor : (a b : ℕ) → a ⊕ b ≡ 0 → a ≡ b
eq_of_xor a b e = sym (xor_zero_r a) ∙ ap (λ (x : ℕ). a ⊕ x) (sym e) ∙ xor_cancel a b

-- ---- the columns of 2 ^ d: a single one

pub bit_pow : (c : ℕ) → bit c (2 ^ c) ≡ 1
bit_pow zero = bit_low 1
bit_pow (suc c) = bit_suc c (2 ^ suc c) ∙ ap (bit c) (rw (pow-succ' 2 c, mul-div_cancel_left (2 ^ c) {n = 2} (zero-lt-suc 1))) ∙ bit_pow c

pub bit_pow_other : (c d : ℕ) → c ≢ d → bit c (2 ^ d) ≡ 0
bit_pow_other zero zero h = absurd (h refl)
bit_pow_other zero (suc d) h = bit_low (2 ^ suc d) ∙ rw (pow-succ' 2 d, mul-mod_right 2 (2 ^ d))
bit_pow_other (suc c) zero h = bit_suc c 1 ∙ bit_of_zero c
bit_pow_other (suc c) (suc d) h =
    bit_suc c (2 ^ suc d) ∙ ap (bit c) (rw (pow-succ' 2 d, mul-div_cancel_left (2 ^ d) {n = 2} (zero-lt-suc 1)))
    ∙ bit_pow_other c d (λ e. h (ap suc e))

-- ---- the columns from n on, and the columns below n

pub bit_shr : (c n v : ℕ) → bit c (v / 2 ^ n) ≡ bit (n + c) v
bit_shr c n v = rw (pow-add 2 n c, div-div-eq-div-mul v (2 ^ n) (2 ^ c))

pub bit_mod : (c n v : ℕ) → c < n → bit c (v % 2 ^ n) ≡ bit c v
bit_mod c zero v h = absurd (omega arith)
bit_mod zero (suc n) v h = bit_low (v % 2 ^ suc n) ∙ rw add-one at (mod-mod-pow v n 1) ∙ sym (bit_low v)
bit_mod (suc c) (suc n) v h = bit_suc c (v % 2 ^ suc n) ∙ ap (bit c) (rw add-one at (field v n 1)) ∙ bit_mod c n (v / 2) (omega arith) ∙ sym (bit_suc c v)

-- a row of n columns has no one from column n on, and what has none is a row of n columns
pub bit_above : (n c v : ℕ) → v < 2 ^ n → n ≤ c → bit c v ≡ 0
bit_above n c v h l = rw (div-eq_of_lt (lt_of_lt_of_le h (pow_mono l)))

pub below_of_bits : (n v : ℕ) → ((c : ℕ) → n ≤ c → bit c v ≡ 0) → v < 2 ^ n
below_of_bits n v h =
    let e : v / 2 ^ n ≡ 0 = zero_ext (v / 2 ^ n) (λ c. bit_shr c n v ∙ h (n + c) (omega arith)) in
    let l : v / 2 ^ n < 1 = omega arith in
    rw one-mul at ((div-lt_iff_lt-mul (pow_pos n)).0 l)

pub bit_mod_above : (n c v : ℕ) → n ≤ c → bit c (v % 2 ^ n) ≡ 0
bit_mod_above n c v = bit_above n c (v % 2 ^ n) (mod-lt v (pow_pos n))
