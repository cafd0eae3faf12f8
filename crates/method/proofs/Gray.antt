-- The Gray code of t differs from that of t - 1 in one digit, as far from the right as t has trailing zeros; and every number below 2 ^ r is the
-- code of one below 2 ^ r. So 2 ^ r - 1 additions, of one row each, make all sums of r rows.
use mathlib.Core.Path.{◌≡◌, sym, ap, ap₂, ◌∙◌}
use mathlib.Core.Logic.{◌≢◌}
use Prim.Native.Nat.{ℕ, zero, suc, ◌+◌, ◌-◌, ◌*◌, ◌/◌, ◌%◌, ◌^◌, ◌≤◌, ◌<◌}
use native.Mathlib.Omega.{arith}
use lib.Arith.{half_le}
use lib.Bits.{differ, xor_comm, xor_lt, xor_self, xor_shifted}
use lib.Count.{count_trailing_zeros}
use lib.Pow.{pow_pos}
use Rattle.gf2.specs.Rows.{◌⊕◌}
use Rattle.gf2.specs.Reduced.{Pivot}
use Rattle.gf2.proofs.Bits.{bit_low, bit_suc, xor_last, xor_half, xor_back, xor_four}
use Rattle.gf2.proofs.Pivot.{pivot_not_zero, trailing_pivot}
use Rattle.method.specs.Gray.{gray}

-- ---- trailing zeros

pivot_half : (z t : ℕ) → Pivot (suc z) t → (t % 2 ≡ 0) × Pivot z (t / 2)
pivot_half z t f = (sym (bit_low t) ∙ f.before 0 (omega arith), record { one = sym (bit_suc z t) ∙ f.one; before = λ c l. sym (bit_suc c t) ∙ f.before (suc c) (omega arith) })

-- ---- below 2 ^ r, each number is the code of one

gray_xor : (a b : ℕ) → gray (a ⊕ b) ≡ gray a ⊕ gray b
gray_xor a b = rw (xor_half a b) (xor_four a b (a / 2) (b / 2))

half_below : (r t : ℕ) → t < 2 ^ r → t / 2 < 2 ^ r
half_below r t h = omega arith

pub gray_lt : (r t : ℕ) → t < 2 ^ r → gray t < 2 ^ r
gray_lt r t h = xor_lt r t (t / 2) h (half_below r t h)

ungray : ℕ → ℕ → ℕ
ungray zero v = 0
ungray (suc n) v = v ⊕ ungray n (v / 2)

gray_ungray : (n v : ℕ) → v ≤ n → gray (ungray n v) ≡ v
unfolding ungray
gray_ungray zero v h = omega arith
gray_ungray (suc n) v h =
    let u : ℕ = ungray n (v / 2) in
    gray_xor v u ∙ ap (λ (x : ℕ). gray v ⊕ x) (gray_ungray n (v / 2) (half_le h)) ∙ xor_back v (v / 2)

ungray_lt : (r n v : ℕ) → v < 2 ^ r → ungray n v < 2 ^ r
unfolding ungray
ungray_lt r zero v h = pow_pos r
ungray_lt r (suc n) v h = xor_lt r v (ungray n (v / 2)) h (ungray_lt r n (v / 2) (half_below r v h))

pub gray_onto : (r v : ℕ) → v < 2 ^ r → (t : ℕ) × (t < 2 ^ r) × (gray t ≡ v)
gray_onto r v h = (ungray v v, ungray_lt r v v h, gray_ungray v v (omega arith))

-- ---- one step

by_digits : (x q r : ℕ) → x / 2 ≡ q → x % 2 ≡ r → x ≡ 2 * q + r
by_digits x q r h l = omega arith

-- t and t - 1 differ up to the pivot of t
ones_xor : (z t : ℕ) → Pivot z t → t ⊕ (t - 1) ≡ 2 ^ suc z - 1
ones_xor zero t f =
    let o : t % 2 ≡ 1 = sym (bit_low t) ∙ f.one in
    let e : (t - 1) % 2 ≡ 0 = omega arith in
    let q : (t - 1) / 2 ≡ t / 2 = omega arith in
    by_digits (t ⊕ (t - 1)) 0 1
    (xor_half t (t - 1) ∙ ap (λ (x : ℕ). t / 2 ⊕ x) q ∙ xor_self (t / 2))
    (xor_last t (t - 1) ∙ ap₂ (λ (x y : ℕ). differ x y) o e)
ones_xor (suc z) t f =
    let n : t ≢ 0 = pivot_not_zero (suc z) t f in
    let o : t % 2 ≡ 0 = (pivot_half z t f).0 in
    let e : (t - 1) % 2 ≡ 1 = omega arith in
    let q : (t - 1) / 2 ≡ t / 2 - 1 = omega arith in
    by_digits (t ⊕ (t - 1)) (2 ^ suc z - 1) 1
    (xor_half t (t - 1) ∙ ap (λ (x : ℕ). t / 2 ⊕ x) q ∙ ones_xor z (t / 2) (pivot_half z t f).1)
    (xor_last t (t - 1) ∙ ap₂ (λ (x y : ℕ). differ x y) o e)
    ∙ omega (arith, pow_pos (suc z))

gray_ones : (z : ℕ) → gray (2 ^ suc z - 1) ≡ 2 ^ z
gray_ones z =
    let h : (2 ^ suc z - 1) / 2 ≡ 2 ^ z - 1 = omega (arith, pow_pos z) in
    let s : 2 ^ suc z - 1 ≡ 1 * 2 ^ z + (2 ^ z - 1) = omega (arith, pow_pos z) in
    let x : 1 * 2 ^ z ⊕ (2 ^ z - 1) ≡ 1 * 2 ^ z + (2 ^ z - 1) = xor_shifted 1 z (2 ^ z - 1) (omega (arith, pow_pos z)) in
    ap₂ (λ (a b : ℕ). a ⊕ b) (s ∙ sym x) h ∙ xor_back (1 * 2 ^ z) (2 ^ z - 1) ∙ omega arith

pub gray_step : (k t : ℕ) → t < 2 ^ k → t ≢ 0 → gray t ≡ gray (t - 1) ⊕ 2 ^ count_trailing_zeros k t
gray_step k t h n =
    let z : ℕ = count_trailing_zeros k t in
    let e : gray t ⊕ gray (t - 1) ≡ 2 ^ z = sym (gray_xor t (t - 1)) ∙ ap gray (ones_xor z t (trailing_pivot k t h n)) ∙ gray_ones z in
    sym (xor_back (gray t) (gray (t - 1))) ∙ ap (λ (x : ℕ). x ⊕ gray (t - 1)) e ∙ xor_comm (2 ^ z) (gray (t - 1))
