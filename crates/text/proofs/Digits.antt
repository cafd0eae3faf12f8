-- The fewest digits that hold a number are its decimal digits.
use mathlib.Core.Path.{◌≡◌, sym, ap, ap₂, ◌∙◌, subst}
use mathlib.Core.List.{List, [], ◌∷◌, ◌++◌}
use Prim.Native.Nat.{ℕ, zero, suc, ◌+◌, ◌-◌, ◌*◌, ◌/◌, ◌%◌, ◌^◌, ◌<◌, ◌≤◌}
use native.Mathlib.Nat.{mod-lt}
use native.Mathlib.Decide.{dec_lt}
use native.Mathlib.Omega.{arith}
use lib.Dec.{lit<, lit≤}
use borrow.Author.Tests.{lt-ltb, le-ltb}
use Rattle.io.specs.Digits.{IsDigitCount, hex_digit_ascii, last_digits}
use Rattle.text.specs.Text.{shortest, decimal}

glyph_ten : (d : ℕ) → d < 10 → hex_digit_ascii d ≡ 48 + d
glyph_ten d h = simp (lt-ltb d 10 h)

ten_pos : (k : ℕ) → 0 < 10 ^ k
ten_pos zero = lit< tt
ten_pos (suc k) = let h : 0 < 10 ^ k = ten_pos k in omega arith

-- n takes k digits, of which d are allowed
spells : (k d n : ℕ) → k ≤ d → n < 10 ^ suc k → (0 < k → 10 ^ k ≤ n) → shortest (suc d) n ≡ last_digits 10 (suc k) n
unfolding shortest
spells zero d n h small large =
    let l : n < 10 = omega arith in
    let m : n ≡ n % 10 = omega arith in
    (simp (lt-ltb n 10 l)) ∙ ap (λ (x : ℕ). x ∷ []) (ap (λ (x : ℕ). 48 + x) m ∙ sym (glyph_ten (n % 10) (mod-lt n (lit< tt))))
spells (suc k) zero n h small large = absurd (omega arith)
spells (suc k) (suc d) n h small large =
    let big : 10 ≤ n = ten (10 ^ k) n (ten_pos k) (tens n k (large (omega arith))) in
    (simp (le-ltb n 10 big))
    ∙ ap₂ (λ (x : List ℕ) (y : ℕ). x ++ (y ∷ []))
    (spells k d (n / 10) (omega arith) (fewer n (10 ^ suc k) (below n (suc k) small)) (λ p. more (10 ^ k) n (tens n k (large (omega arith)))))
    (sym (glyph_ten (n % 10) (mod-lt n (lit< tt))))
  where
    tens : (n k : ℕ) → 10 ^ suc k ≤ n → 10 ^ k * 10 ≤ n
    tens n k h = omega arith

    below : (n k : ℕ) → n < 10 ^ suc k → n < 10 ^ k * 10
    below n k h = omega arith

    ten : (q n : ℕ) → 0 < q → q * 10 ≤ n → 10 ≤ n
    ten q n h l = omega arith

    fewer : (n q : ℕ) → n < q * 10 → n / 10 < q
    fewer n q h = omega arith

    more : (q n : ℕ) → q * 10 ≤ n → q ≤ n / 10
    more q n h = omega arith

-- a number of 64 bits takes no more than 20 digits
grows : (j : ℕ) → 10 ^ 20 ≤ 10 ^ (j + 20)
grows zero = lit≤ tt
grows (suc j) =
    let e : suc (j + 20) ≡ suc j + 20 = omega arith in
    subst (λ (k : ℕ). 10 ^ 20 ≤ 10 ^ k) e (let h : 10 ^ 20 ≤ 10 ^ (j + 20) = grows j in omega arith)

few : (k n : ℕ) → n < 2 ^ 64 → 10 ^ k ≤ n → k ≤ 19
few k n small large = go (dec_lt k 20)
  where
    over : (n q : ℕ) → n < 2 ^ 64 → q ≤ n → 10 ^ 20 ≤ q → ⊥
    over n q a b c = omega arith

    go : Dec (k < 20) → k ≤ 19
    go (yes h) = omega arith
    go (no h) =
        let e : k - 20 + 20 ≡ k = omega arith in
        let g : 10 ^ 20 ≤ 10 ^ k = subst (λ (x : ℕ). 10 ^ 20 ≤ 10 ^ x) e (grows (k - 20)) in
        absurd (over n (10 ^ k) small large g)

pub fewest_decimal : (n k : ℕ) → n < 2 ^ 64 → IsDigitCount 10 1 n k → last_digits 10 k n ≡ decimal n
unfolding decimal
fewest_decimal n zero small f = absurd (omega (arith, f.0))
fewest_decimal n (suc k) small f = sym (spells k 19 n (short k large) f.1 large)
  where
    back : (k : ℕ) → suc k - 1 ≡ k
    back k = omega arith

    large : 0 < k → 10 ^ k ≤ n
    large p = subst (λ (e : ℕ). 10 ^ e ≤ n) (back k) (f.2 (omega arith))

    short : (k : ℕ) → (0 < k → 10 ^ k ≤ n) → k ≤ 19
    short zero l = lit≤ tt
    short (suc k) l = few (suc k) n small (l (omega arith))
