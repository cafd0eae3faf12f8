-- Six exchanges of neighbours reverse 64 bits; what a reversed word holds, and that reversing twice gives the word back.
use mathlib.Core.Logic.{◌↔◌}
use mathlib.Core.Path.{◌≡◌, refl, sym, ap, ap₂, ◌∙◌, subst}
use Prim.Native.Nat.{ℕ, zero, suc, ◌+◌, ◌-◌, ◌*◌, ◌/◌, ◌%◌, ◌^◌, ◌<◌, ◌≤◌}
use native.Mathlib.Nat.{lt_of_lt_of_le, mod-lt, add-mul, mul_assoc, mul_comm, zero-mul, zero-add, add_comm, suc-add, suc-mul, mod-eq_of_lt}
use native.Mathlib.Omega.{arith}
use lib.Bits.{bit_and, and_block, and_mask, and_zero_r}
use lib.Dec.{lit<}
use lib.Pow.{pow-add, pow_pos, pow_mono, split, high, low, shr-shr, mod-mod-pow, ones_lt, mod-pow-add}
use lib.Arith.{digits_lt}
use Rattle.words.proofs.First.{moved_up}
use Rattle.wire.specs.Kinds.{reversed}
use Rattle.wire.specs.Swaps.{swap_pairs, mask_of}

pub reversed_lt : (k x : ℕ) → reversed k x < 2 ^ k
unfolding reversed
reversed_lt zero x = pow_pos 0
reversed_lt (suc k) x =
    let p : 2 ^ suc k ≡ 2 * 2 ^ k = omega arith in
    subst (λ (n : ℕ). x % 2 * 2 ^ k + reversed k (x / 2) < n) (sym p) (digits_lt (mod-lt x (lit< tt)) (reversed_lt k (x / 2)))

-- ---- a word of masks
below_pair : (s : ℕ) → 2 ^ s - 1 < 2 ^ (s + s)
below_pair s = lt_of_lt_of_le (ones_lt s) (pow_mono {i = s} {j = s + s} (omega arith))

and_pair : (n s x : ℕ) → bit_and x (mask_of (suc n) s) ≡ bit_and (x / 2 ^ (s + s)) (mask_of n s) * 2 ^ (s + s) + x % 2 ^ s
unfolding mask_of
and_pair n s x =
    let k : ℕ = s + s in
    ap (λ (y : ℕ). bit_and y (mask_of n s * 2 ^ k + (2 ^ s - 1))) (sym (split x k))
    ∙ and_block k (x / 2 ^ k) (mask_of n s) (x % 2 ^ k) (2 ^ s - 1) (mod-lt x (pow_pos k)) (below_pair s)
    ∙ ap (λ (y : ℕ). bit_and (x / 2 ^ k) (mask_of n s) * 2 ^ k + y) (and_mask (x % 2 ^ k) s ∙ mod-mod-pow x s s)

shift_over : (s x : ℕ) → x / 2 ^ s / 2 ^ (s + s) ≡ x / 2 ^ (s + s) / 2 ^ s
shift_over s x = shr-shr x s (s + s) ∙ ap (λ (k : ℕ). x / 2 ^ k) (add_comm s (s + s)) ∙ sym (shr-shr x (s + s) s)

spread : (a b p q u v : ℕ) → (a * q + u) * p + (b * q + v) ≡ (a * p + b) * q + (u * p + v)
spread a b p q u v =
    let e₁ : (a * q + u) * p ≡ a * q * p + u * p = add-mul (a * q) u p in
    let e₂ : (a * p + b) * q ≡ a * p * q + b * q = add-mul (a * p) b q in
    let e₃ : a * q * p ≡ a * p * q = mul_assoc a q p ∙ ap (λ (k : ℕ). a * k) (mul_comm q p) ∙ sym (mul_assoc a p q) in
    omega (arith, e₁, e₂, e₃)

pub swapped : (n s x : ℕ) → bit_and x (mask_of n s) * 2 ^ s + bit_and (x / 2 ^ s) (mask_of n s) ≡ swap_pairs n s x
unfolding swap_pairs mask_of
swapped zero s x = ap₂ (λ (a b : ℕ). a * 2 ^ s + b) (and_zero_r x) (and_zero_r (x / 2 ^ s)) ∙ nothing (2 ^ s)
  where
    nothing : (p : ℕ) → 0 * p + 0 ≡ 0
    nothing p = omega arith
swapped (suc n) s x =
    let k : ℕ = s + s in
    let q : ℕ = x / 2 ^ k in
    ap₂ (λ (a b : ℕ). a * 2 ^ s + b) (and_pair n s x) (and_pair n s (x / 2 ^ s) ∙ ap (λ (y : ℕ). bit_and y (mask_of n s) * 2 ^ k + x / 2 ^ s % 2 ^ s) (shift_over s x))
    ∙ spread (bit_and q (mask_of n s)) (bit_and (q / 2 ^ s) (mask_of n s)) (2 ^ s) (2 ^ k) (x % 2 ^ s) (x / 2 ^ s % 2 ^ s)
    ∙ ap (λ (y : ℕ). y * 2 ^ k + (x % 2 ^ s * 2 ^ s + x / 2 ^ s % 2 ^ s)) (swapped n s q)

pub swap_lt : (n s x : ℕ) → swap_pairs n s x < 2 ^ (n * (s + s))
unfolding swap_pairs
swap_lt zero s x = subst (λ (k : ℕ). 0 < 2 ^ k) (sym (zero-mul (s + s))) (pow_pos 0)
swap_lt (suc n) s x =
    let k : ℕ = s + s in
    let pair : x % 2 ^ s * 2 ^ s + x / 2 ^ s % 2 ^ s < 2 ^ k =
    subst (λ (m : ℕ). x % 2 ^ s * 2 ^ s + x / 2 ^ s % 2 ^ s < m) (sym (pow-add 2 s s)) (digits_lt (mod-lt x (pow_pos s)) (mod-lt (x / 2 ^ s) (pow_pos s))) in
    let e : n * k + k ≡ suc n * k = sym (suc-mul n k) in
    subst (λ (m : ℕ). swap_pairs (suc n) s x < 2 ^ m) e
    (subst (λ (m : ℕ). swap_pairs (suc n) s x < m) (sym (pow-add 2 (n * k) k)) (digits_lt (swap_lt n s (x / 2 ^ k)) pair))

-- ---- each of n digits of s bits in reverse
unfoldable pub rev_each : ℕ → ℕ → ℕ → ℕ
rev_each zero s x = 0
rev_each (suc n) s x = rev_each n s (x / 2 ^ s) * 2 ^ s + reversed s x

pub reversed_add : (a b x : ℕ) → reversed (a + b) x ≡ reversed a x * 2 ^ b + reversed b (x / 2 ^ a)
unfolding reversed
reversed_add zero b x =
    let z : 0 + b ≡ b = zero-add b in
    ap (λ (k : ℕ). reversed k x) z ∙ ap (reversed b) (one x) ∙ nothing (2 ^ b) (reversed b (x / 2 ^ 0))
  where
    one : (x : ℕ) → x ≡ x / 2 ^ 0
    one x = omega arith

    nothing : (p y : ℕ) → y ≡ 0 * p + y
    nothing p y = omega arith
reversed_add (suc a) b x =
    let e : x / 2 / 2 ^ a ≡ x / 2 ^ suc a = shr-shr x 1 a ∙ ap (λ (k : ℕ). x / 2 ^ k) (add_comm 1 a ∙ plus a) in
    ap (λ (k : ℕ). reversed k x) (suc-add a b)
    ∙ ap₂ (λ (p y : ℕ). x % 2 * p + y) (pow-add 2 a b) (reversed_add a b (x / 2) ∙ ap (λ (y : ℕ). reversed a (x / 2) * 2 ^ b + reversed b y) e)
    ∙ sum (x % 2) (2 ^ a) (2 ^ b) (reversed a (x / 2)) (reversed b (x / 2 ^ suc a))
  where
    plus : (a : ℕ) → a + 1 ≡ suc a
    plus a = omega arith

    sum : (d p q r t : ℕ) → d * (p * q) + (r * q + t) ≡ (d * p + r) * q + t
    sum d p q r t = omega (arith, add-mul (d * p) r q, mul_assoc d p q)

pub swap_each : (n s x : ℕ) → swap_pairs n s (rev_each (n + n) s x) ≡ rev_each n (s + s) x
unfolding swap_pairs rev_each
swap_each zero s x = refl
swap_each (suc n) s x =
    let k : ℕ = s + s in
    let u : ℕ = reversed s x in
    let v : ℕ = reversed s (x / 2 ^ s) in
    let w : ℕ = rev_each (n + n) s (x / 2 ^ s / 2 ^ s) in
    let m : suc n + suc n ≡ suc (suc (n + n)) = twice n in
    let y : ℕ = (w * 2 ^ s + v) * 2 ^ s + u in
    let y₀ : rev_each (suc n + suc n) s x ≡ y = ap (λ (j : ℕ). rev_each j s x) m in
    let y₁ : y / 2 ^ s ≡ w * 2 ^ s + v = high (w * 2 ^ s + v) s (reversed_lt s x) in
    let y₂ : y / 2 ^ k ≡ w = sym (shr-shr y s s) ∙ ap (λ (z : ℕ). z / 2 ^ s) y₁ ∙ high w s (reversed_lt s (x / 2 ^ s)) in
    let y₃ : y % 2 ^ s ≡ u = low (w * 2 ^ s + v) s (reversed_lt s x) in
    let y₄ : y / 2 ^ s % 2 ^ s ≡ v = ap (λ (z : ℕ). z % 2 ^ s) y₁ ∙ low w s (reversed_lt s (x / 2 ^ s)) in
    let w₀ : w ≡ rev_each (n + n) s (x / 2 ^ k) = ap (rev_each (n + n) s) (shr-shr x s s) in
    ap (swap_pairs (suc n) s) y₀
    ∙ ap₂ (λ (a b : ℕ). swap_pairs n s a * 2 ^ k + b) (y₂ ∙ w₀) (ap₂ (λ (a b : ℕ). a * 2 ^ s + b) y₃ y₄)
    ∙ ap₂ (λ (a b : ℕ). a * 2 ^ k + b) (swap_each n s (x / 2 ^ k)) (sym (reversed_add s s x))
  where
    twice : (n : ℕ) → suc n + suc n ≡ suc (suc (n + n))
    twice n = omega arith

each_one : (n x : ℕ) → x < 2 ^ n → x ≡ rev_each n 1 x
unfolding rev_each reversed
each_one zero x h = nought x h
  where
    nought : (x : ℕ) → x < 2 ^ 0 → x ≡ 0
    nought x h = omega arith
each_one (suc n) x h =
    let q : x / 2 ^ 1 < 2 ^ n = halves x (2 ^ n) (omega arith) in
    whole x ∙ ap (λ (y : ℕ). y * 2 ^ 1 + (x % 2 * 2 ^ 0 + 0)) (each_one n (x / 2 ^ 1) q)
  where
    halves : (x p : ℕ) → x < 2 * p → x / 2 ^ 1 < p
    halves x p h = omega arith

    whole : (x : ℕ) → x ≡ x / 2 ^ 1 * 2 ^ 1 + (x % 2 * 2 ^ 0 + 0)
    whole x = omega arith

-- the six steps
pub six : (x a b c d e f : ℕ) → x < 2 ^ 64 → a ≡ swap_pairs 32 1 x → b ≡ swap_pairs 16 2 a → c ≡ swap_pairs 8 4 b
    → d ≡ swap_pairs 4 8 c → e ≡ swap_pairs 2 16 d → f ≡ swap_pairs 1 32 e → f ≡ reversed 64 x
unfolding rev_each
six x a b c d e f h ea eb ec ed ee ef =
    let a₁ : a ≡ rev_each 32 2 x = ea ∙ ap (swap_pairs 32 1) (each_one 64 x h) ∙ swap_each 32 1 x in
    let b₁ : b ≡ rev_each 16 4 x = eb ∙ ap (swap_pairs 16 2) a₁ ∙ swap_each 16 2 x in
    let c₁ : c ≡ rev_each 8 8 x = ec ∙ ap (swap_pairs 8 4) b₁ ∙ swap_each 8 4 x in
    let d₁ : d ≡ rev_each 4 16 x = ed ∙ ap (swap_pairs 4 8) c₁ ∙ swap_each 4 8 x in
    let e₁ : e ≡ rev_each 2 32 x = ee ∙ ap (swap_pairs 2 16) d₁ ∙ swap_each 2 16 x in
    ef ∙ ap (swap_pairs 1 32) e₁ ∙ swap_each 1 32 x ∙ nothing (2 ^ 64) (reversed 64 x)
  where
    nothing : (p y : ℕ) → 0 * p + y ≡ y
    nothing p y = omega arith

pub stage_is : (x m n s : ℕ) → m ≡ mask_of n s → n * (s + s) ≡ 64 → bit_and x m * 2 ^ s % 18446744073709551616 + bit_and (x / 2 ^ s) m ≡ swap_pairs n s x
stage_is x m n s em en =
    let v : bit_and x m * 2 ^ s + bit_and (x / 2 ^ s) m ≡ swap_pairs n s x = ap (λ (y : ℕ). bit_and x y * 2 ^ s + bit_and (x / 2 ^ s) y) em ∙ swapped n s x in
    let l : swap_pairs n s x < 2 ^ 64 = subst (λ (k : ℕ). swap_pairs n s x < 2 ^ k) en (swap_lt n s x) in
    ap (λ (y : ℕ). y + bit_and (x / 2 ^ s) m) (mod-eq_of_lt (omega arith)) ∙ v

pub stage_fits : (x m n s : ℕ) → m ≡ mask_of n s → n * (s + s) ≡ 64 → bit_and x m * 2 ^ s % 18446744073709551616 + bit_and (x / 2 ^ s) m < 2 ^ 64
stage_fits x m n s em en =
    subst (λ (y : ℕ). y < 2 ^ 64) (sym (stage_is x m n s em en)) (subst (λ (k : ℕ). swap_pairs n s x < 2 ^ k) en (swap_lt n s x))

-- ---- in reverse, twice

rev_top : (k d y : ℕ) → d < 2 → y < 2 ^ k → reversed (suc k) (d * 2 ^ k + y) ≡ reversed k y * 2 + d
unfolding reversed
rev_top zero d y hd hy = one d y hd hy
  where
    one : (d y : ℕ) → d < 2 → y < 2 ^ 0 → (d * 2 ^ 0 + y) % 2 * 2 ^ 0 + 0 ≡ 0 * 2 + d
    one d y hd hy = omega arith
rev_top (suc j) d y hd hy =
    let p : 2 ^ suc j ≡ 2 * 2 ^ j = omega arith in
    let m : d * 2 ^ suc j ≡ d * 2 ^ j * 2 = ap (λ (n : ℕ). d * n) (p ∙ mul_comm 2 (2 ^ j)) ∙ sym (mul_assoc d (2 ^ j) 2) in
    let low : (d * 2 ^ suc j + y) % 2 ≡ y % 2 = parity (d * 2 ^ suc j) (d * 2 ^ j) y m in
    let high : (d * 2 ^ suc j + y) / 2 ≡ d * 2 ^ j + y / 2 = half (d * 2 ^ suc j) (d * 2 ^ j) y m in
    let hy' : y / 2 < 2 ^ j = omega arith in
    let ih : reversed (suc j) (d * 2 ^ j + y / 2) ≡ reversed j (y / 2) * 2 + d = rev_top j d (y / 2) hd hy' in
    ap₂ (λ (a c : ℕ). a * 2 ^ suc j + reversed (suc j) c) low high ∙ ap (λ (n : ℕ). y % 2 * 2 ^ suc j + n) ih
    ∙ sum (y % 2) (2 ^ j) (2 ^ suc j) (reversed j (y / 2)) d p
  where
    parity : (a q y : ℕ) → a ≡ q * 2 → (a + y) % 2 ≡ y % 2
    parity a q y e = omega arith

    half : (a q y : ℕ) → a ≡ q * 2 → (a + y) / 2 ≡ q + y / 2
    half a q y e = omega arith

    sum : (b q q' r d : ℕ) → q' ≡ 2 * q → b * q' + (r * 2 + d) ≡ (b * q + r) * 2 + d
    sum b q q' r d e = omega (arith, ap (λ (n : ℕ). b * n) e, mul_comm b (2 * q), mul_assoc 2 q b, mul_comm q b)

pub reversed_twice : (k x : ℕ) → x < 2 ^ k → reversed k (reversed k x) ≡ x
unfolding reversed
reversed_twice zero x h = none x h
  where
    none : (x : ℕ) → x < 2 ^ 0 → 0 ≡ x
    none x h = omega arith
reversed_twice (suc k) x h =
    let h' : x / 2 < 2 ^ k = omega arith in
    rev_top k (x % 2) (reversed k (x / 2)) (mod-lt x (lit< tt)) (reversed_lt k (x / 2)) ∙ ap (λ (n : ℕ). n * 2 + x % 2) (reversed_twice k (x / 2) h') ∙ back x
  where
    back : (x : ℕ) → x / 2 * 2 + x % 2 ≡ x
    back x = omega arith

-- ---- what stands where

-- bit c of the word in reverse is its bit of weight 2 ^ (63 - c)
pub weight : (x c : ℕ) → c < 64 → reversed 64 x / 2 ^ c % 2 ≡ x / 2 ^ (63 - c) % 2
unfolding reversed
weight x c h =
    let k : ℕ = 63 - c in
    let e : k + 1 + c ≡ 64 = omega arith in
    ap (λ (j : ℕ). reversed j x / 2 ^ c % 2) (sym e)
    ∙ ap (λ (y : ℕ). y / 2 ^ c % 2) (reversed_add (k + 1) c x)
    ∙ ap (λ (y : ℕ). y % 2) (high (reversed (k + 1) x) c (reversed_lt c (x / 2 ^ (k + 1))))
    ∙ ap (λ (y : ℕ). y % 2) (reversed_add k 1 x) ∙ last (reversed k x) (x / 2 ^ k)
  where
    last : (a y : ℕ) → (a * 2 ^ 1 + (y % 2 * 2 ^ 0 + 0)) % 2 ≡ y % 2
    last a y = omega arith

-- all but the lowest s bits in reverse are the lowest 64 - s bits of the word
pub low_end : (x s : ℕ) → s ≤ 64 → reversed 64 x / 2 ^ s ≡ reversed (64 - s) x
low_end x s h =
    let e : 64 - s + s ≡ 64 = omega arith in
    ap (λ (j : ℕ). reversed j x / 2 ^ s) (sym e) ∙ ap (λ (y : ℕ). y / 2 ^ s) (reversed_add (64 - s) s x) ∙ high (reversed (64 - s) x) s (reversed_lt s (x / 2 ^ (64 - s)))

-- ---- where the lowest k bits are zero, so are they in reverse

halves : (k x : ℕ) → x % 2 ^ suc k ≡ x / 2 % 2 ^ k * 2 + x % 2
halves k x = ap (λ (e : ℕ). x % 2 ^ e) (one k) ∙ mod-pow-add x k 1
  where
    one : (k : ℕ) → suc k ≡ k + 1
    one k = omega arith

reversed_none : (k x : ℕ) → reversed k x ≡ 0 → x % 2 ^ k ≡ 0
unfolding reversed
reversed_none zero x e = omega arith
reversed_none (suc k) x e =
    let low : x % 2 ≡ 0 = digit (x % 2) (2 ^ k) (reversed k (x / 2)) (pow_pos k) e in
    let rest : reversed k (x / 2) ≡ 0 = over (x % 2 * 2 ^ k) (reversed k (x / 2)) e in
    halves k x ∙ both (x / 2 % 2 ^ k) (x % 2) (reversed_none k (x / 2) rest) low
  where
    over : (a b : ℕ) → a + b ≡ 0 → b ≡ 0
    over a b e = omega arith

    both : (a b : ℕ) → a ≡ 0 → b ≡ 0 → a * 2 + b ≡ 0
    both a b p q = omega arith

    digit : (d p r : ℕ) → 0 < p → d * p + r ≡ 0 → d ≡ 0
    digit zero p r h e = refl
    digit (suc d) p r h e = absurd (omega (arith, suc-mul d p))

none_reversed : (k x : ℕ) → x % 2 ^ k ≡ 0 → reversed k x ≡ 0
unfolding reversed
none_reversed zero x e = refl
none_reversed (suc k) x e =
    let s : x / 2 % 2 ^ k * 2 + x % 2 ≡ 0 = sym (halves k x) ∙ e in
    let low : x % 2 ≡ 0 = second (x / 2 % 2 ^ k) (x % 2) s in
    ap₂ (λ (d r : ℕ). d * 2 ^ k + r) low (none_reversed k (x / 2) (first (x / 2 % 2 ^ k) (x % 2) s)) ∙ omega (arith, zero-mul (2 ^ k))
  where
    first : (a b : ℕ) → a * 2 + b ≡ 0 → a ≡ 0
    first a b e = omega arith

    second : (a b : ℕ) → a * 2 + b ≡ 0 → b ≡ 0
    second a b e = omega arith

-- a word moved up by s keeps its lowest 64 - s bits, so a one past the first s columns of kind 2 shows there
pub past_reversed : (x s : ℕ) → s < 64 → (x * 2 ^ s % 2 ^ 64 ≡ 0) ↔ (reversed 64 x / 2 ^ s ≡ 0)
past_reversed x s h =
    let m : x * 2 ^ s % 2 ^ 64 ≡ x % 2 ^ (64 - s) * 2 ^ s = moved_up x s (omega arith) in (
      λ z. low_end x s (omega arith) ∙ none_reversed (64 - s) x (divided (x % 2 ^ (64 - s)) (2 ^ s) (pow_pos s) (sym m ∙ z)),
      λ z. m ∙ ap (λ (r : ℕ). r * 2 ^ s) (reversed_none (64 - s) x (sym (low_end x s (omega arith)) ∙ z)) ∙ zero-mul (2 ^ s),
    )
  where
    divided : (a p : ℕ) → 0 < p → a * p ≡ 0 → a ≡ 0
    divided zero p h e = refl
    divided (suc a) p h e = absurd (omega (arith, suc-mul a p))
