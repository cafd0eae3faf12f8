-- Products compared by division, and sums by subtraction, so that nothing is made that could wrap.
use mathlib.Core.Path.{◌≡◌, sym, ap, ◌∙◌}
use mathlib.Core.Logic.{◌≢◌}
use mathlib.Core.Bool.{true, false}
use Prim.Native.Nat.{ℕ, ◌+◌, ◌-◌, ◌*◌, ◌/◌, ◌%◌, ◌^◌, ◌≤◌, ◌<◌}
use native.Mathlib.Decide.{ℕ_discrete, dec_lt}
use native.Mathlib.Nat.{mul-zero, mul-mod_left, mul-div_cancel, div-add-mod', div-lt_iff_lt-mul, one-mul, div-le_self}
use native.Mathlib.Omega.{arith}
use borrow.Author.Tests.{eq-eqb, ne_eqb, lt-ltb, le-ltb}
use lib.Dec.{eqb, ltb, lit<}
use lib.Pow.{pow_mono, shl_exact}

-- ---- len against rows * w

pub product_none : (len rows w : ℕ) → w ≡ 0 → eqb len 0 ≡ eqb len (rows * w)
product_none len rows w e = ap (eqb len) (sym (mul-zero rows) ∙ ap (λ (x : ℕ). rows * x) (sym e))

pub product_exact : (len rows w : ℕ) → w ≢ 0 → len % w ≡ 0 → eqb (len / w) rows ≡ eqb len (rows * w)
product_exact len rows w h e = go (ℕ_discrete (len / w) rows)
  where
    whole : len / w * w ≡ len
    whole = omega (arith, div-add-mod' len w)

    go : Dec (len / w ≡ rows) → eqb (len / w) rows ≡ eqb len (rows * w)
    go (yes i) = eq-eqb (len / w) rows i ∙ sym (eq-eqb len (rows * w) (sym whole ∙ ap (λ (x : ℕ). x * w) i))
    go (no n) =
        ne_eqb (len / w) rows n
        ∙ sym (ne_eqb len (rows * w) (λ i. n (ap (λ (x : ℕ). x / w) i ∙ mul-div_cancel rows {n = w} (omega arith))))

pub product_not : (len rows w : ℕ) → len % w ≢ 0 → false ≡ eqb len (rows * w)
product_not len rows w h = sym (ne_eqb len (rows * w) (λ i. h (ap (λ (x : ℕ). x % w) i ∙ mul-mod_left rows w)))

-- ---- room against (more + 2 ^ k) * w

pub short_none : (room more k w : ℕ) → w ≡ 0 → false ≡ ltb room ((more + 2 ^ k) * w)
short_none room more k w e =
    let z : (more + 2 ^ k) * w ≡ 0 = ap (λ (x : ℕ). (more + 2 ^ k) * x) e ∙ mul-zero (more + 2 ^ k) in
    sym (le-ltb room ((more + 2 ^ k) * w) (omega arith))

divided : (room need w : ℕ) → w ≢ 0 → ltb (room / w) need ≡ ltb room (need * w)
divided room need w h = go (dec_lt (room / w) need)
  where
    pos : 0 < w
    pos = omega arith

    go : Dec (room / w < need) → ltb (room / w) need ≡ ltb room (need * w)
    go (yes l) = lt-ltb (room / w) need l ∙ sym (lt-ltb room (need * w) ((div-lt_iff_lt-mul pos).0 l))
    go (no n) = le-ltb (room / w) need (omega arith) ∙ sym (le-ltb room (need * w) (le (dec_lt room (need * w))))
      where
        le : Dec (room < need * w) → need * w ≤ room
        le (yes m) = absurd (n ((div-lt_iff_lt-mul pos).1 m))
        le (no m) = omega arith

pub short_far : (room more k w : ℕ) → w ≢ 0 → 63 < k → room < 2 ^ 64 → true ≡ ltb room ((more + 2 ^ k) * w)
short_far room more k w h f l =
    let q : room / w ≤ room = div-le_self room w in
    sym (sym (divided room (more + 2 ^ k) w h) ∙ lt-ltb (room / w) (more + 2 ^ k) (omega (arith, pow_mono {i = 64} {j = k} f)))

pub short_few : (room more k w : ℕ) → w ≢ 0 → room / w < more → true ≡ ltb room ((more + 2 ^ k) * w)
short_few room more k w h l = sym (sym (divided room (more + 2 ^ k) w h) ∙ lt-ltb (room / w) (more + 2 ^ k) (omega arith))

pub short_rest : (room more k w : ℕ) → w ≢ 0 → more ≤ room / w → k ≤ 63 → ltb (room / w - more) (1 * 2 ^ k % 18446744073709551616) ≡ ltb room ((more + 2 ^ k) * w)
short_rest room more k w h l f =
    ap (ltb (room / w - more)) (shl_exact 1 k 64 (lit< tt) (omega arith) ∙ one-mul (2 ^ k))
    ∙ go (dec_lt (room / w - more) (2 ^ k)) ∙ divided room (more + 2 ^ k) w h
  where
    go : Dec (room / w - more < 2 ^ k) → ltb (room / w - more) (2 ^ k) ≡ ltb (room / w) (more + 2 ^ k)
    go (yes m) = lt-ltb (room / w - more) (2 ^ k) m ∙ sym (lt-ltb (room / w) (more + 2 ^ k) (omega arith))
    go (no m) = le-ltb (room / w - more) (2 ^ k) (omega arith) ∙ sym (le-ltb (room / w) (more + 2 ^ k) (omega arith))

-- ---- 1,024 against a + b

pub over_far : (a b : ℕ) → 1024 < a → true ≡ ltb 1024 (a + b)
over_far a b h = sym (lt-ltb 1024 (a + b) (omega arith))

pub over_rest : (a b : ℕ) → a ≤ 1024 → ltb (1024 - a) b ≡ ltb 1024 (a + b)
over_rest a b h = go (dec_lt (1024 - a) b)
  where
    go : Dec (1024 - a < b) → ltb (1024 - a) b ≡ ltb 1024 (a + b)
    go (yes l) = lt-ltb (1024 - a) b l ∙ sym (lt-ltb 1024 (a + b) (omega arith))
    go (no l) = le-ltb (1024 - a) b (omega arith) ∙ sym (le-ltb 1024 (a + b) (omega arith))
