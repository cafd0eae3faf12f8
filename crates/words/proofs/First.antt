-- A number written to words: its w lowest words, and each word as the 64 columns from its place on.
use mathlib.Core.Path.{◌≡◌, refl, sym, ap, ap₂, ◌∙◌, subst}
use mathlib.Core.List.{List, [], ◌∷◌}
use Prim.Native.Nat.{ℕ, zero, suc, ◌+◌, ◌-◌, ◌*◌, ◌/◌, ◌%◌, ◌^◌, ◌≤◌, ◌<◌}
use native.Mathlib.Nat.{mul-zero, mul-mod_left, add-zero, div-one, zero-div}
use native.Mathlib.Omega.{arith}
use lib.Bits.{bit_or, or_shifted_r, xor_mod, xor_shr}
use lib.ListN.{length, get_or, take}
use borrow.Rule.Slice.PartMut.{put_mid}
use lib.Seq.{paste, ext_get_or, length-take-le, get_or-take}
use lib.Pow.{low, high, field, mod-pow-add, mod-mod-pow, shl-shr, shr_lt, shr-shr}
use Rattle.std.proofs.lemmas.Slice.{put_mid-paste}
use Rattle.gf2.specs.Rows.{◌⊕◌}
use Rattle.words.proofs.Digits.{length_digits, fit_digits, number_digits}
use Rattle.words.specs.Words.{Fit, value, first_words, window_bits}

pub length_first : (w v : ℕ) → length (first_words w v) ≡ w
length_first = length_digits 64

pub fit_first : (w v : ℕ) → Fit (first_words w v)
fit_first = fit_digits 64

-- word l is the 64 columns from column 64 l on
pub get_or_first : (w v l : ℕ) → l < w → get_or (first_words w v) l 0 ≡ window_bits (64 * l) 64 v
get_or_first zero v l h = absurd (omega arith)
get_or_first (suc w) v zero h = sym (ap (λ (x : ℕ). x % 2 ^ 64) (ap (λ (e : ℕ). v / 2 ^ e) (mul-zero 64) ∙ div-one v))
get_or_first (suc w) v (suc l) h =
    let e : 64 + 64 * l ≡ 64 * suc l = omega arith in
    get_or_first w (v / 2 ^ 64) l (omega arith) ∙ ap (λ (x : ℕ). x % 2 ^ 64) (shr-shr v 64 (64 * l) ∙ ap (λ (k : ℕ). v / 2 ^ k) e)

-- and that fixes the words
pub first_is : (w v : ℕ) (ws : List ℕ) → length ws ≡ w → ((l : ℕ) → l < w → get_or ws l 0 ≡ window_bits (64 * l) 64 v) → ws ≡ first_words w v
first_is w v ws e h =
    ext_get_or 0 ws (first_words w v) (e ∙ sym (length_first w v)) (λ l k. let k' : l < w = omega arith in h l k' ∙ sym (get_or_first w v l k'))

-- a number's words written to the k words from a on
pub put_first : (a k w len v : ℕ) (d ws : List ℕ) → ws ≡ first_words len v → len ≡ w → k ≡ w → put_mid a k d ws ≡ paste d a (first_words w v) w
put_first a k w len v d ws e l h = put_mid-paste a k d ws (first_words w v) w (e ∙ ap (λ (n : ℕ). first_words n v) l) (sym h) (sym (length_first w v))

-- a number of no more words is held whole
pub value_first : (w v : ℕ) → v < 2 ^ (64 * w) → value (first_words w v) ≡ v
value_first = number_digits 64

-- ---- windows of a shifted row, and of a sum of rows

pub window_shift : (c d v : ℕ) → window_bits d 64 (v / 2 ^ c) ≡ window_bits (c + d) 64 v
window_shift c d v = ap (λ (x : ℕ). x % 2 ^ 64) (shr-shr v c d)

pub window_sum : (c u v : ℕ) → window_bits c 64 u ⊕ window_bits c 64 v ≡ window_bits c 64 (u ⊕ v)
window_sum c u v = sym (ap (λ (x : ℕ). x % 2 ^ 64) (xor_shr u v c) ∙ xor_mod (u / 2 ^ c) (v / 2 ^ c) 64)

-- a word moved up by s columns keeps its lowest 64 - s
pub moved_up : (x s : ℕ) → s ≤ 64 → x * 2 ^ s % 2 ^ 64 ≡ x % 2 ^ (64 - s) * 2 ^ s
moved_up x s h =
    let e : 64 ≡ 64 - s + s = omega arith in
    ap (λ (k : ℕ). x * 2 ^ s % 2 ^ k) e ∙ mod-pow-add (x * 2 ^ s) (64 - s) s
    ∙ ap₂ (λ (a b : ℕ). a % 2 ^ (64 - s) * 2 ^ s + b) (shl-shr x s) (mul-mod_left x (2 ^ s)) ∙ add-zero (x % 2 ^ (64 - s) * 2 ^ s)

-- ---- windows of the row that words hold, word by word

-- word l is the 64 columns from column 64 l on
pub value_word : (ws : List ℕ) (l : ℕ) → Fit ws → get_or ws l 0 ≡ window_bits (64 * l) 64 (value ws)
value_word [] l f = sym (ap (λ (x : ℕ). x % 2 ^ 64) (zero-div (2 ^ (64 * l))))
value_word (x ∷ ws) zero f = sym (ap (λ (y : ℕ). y % 2 ^ 64) (ap (λ (e : ℕ). value (x ∷ ws) / 2 ^ e) (mul-zero 64) ∙ div-one (value (x ∷ ws))) ∙ low (value ws) 64 (f 0))
value_word (x ∷ ws) (suc l) f =
    let e : 64 + 64 * l ≡ 64 * suc l = omega arith in
    value_word ws l (λ i. f (suc i))
    ∙ ap (window_bits (64 * l) 64) (sym (high (value ws) 64 (f 0)))
    ∙ window_shift 64 (64 * l) (value (x ∷ ws))
    ∙ ap (λ (k : ℕ). window_bits k 64 (value (x ∷ ws))) e

-- so words are those of their number; and so are the first of them
pub words_first : (ws : List ℕ) → Fit ws → ws ≡ first_words (length ws) (value ws)
words_first ws f = first_is (length ws) (value ws) ws refl (λ l h. value_word ws l f)

pub take_first : (v : ℕ) (ws : List ℕ) → Fit ws → v ≤ length ws → take v ws ≡ first_words v (value ws)
take_first v ws f h = first_is v (value ws) (take v ws) (length-take-le v ws h) (λ l k. get_or-take v ws l 0 k ∙ value_word ws l f)

module _ (ws : List ℕ) (c : ℕ) (f : Fit ws) where
  -- the 64 columns from column c on are a word, where c is its first column
  pub window_word : c % 64 ≡ 0 → get_or ws (c / 64) 0 / 2 ^ (c % 64) ≡ window_bits c 64 (value ws)
  window_word z =
      let e : 64 * (c / 64) ≡ c = omega arith in
      ap (λ (k : ℕ). get_or ws (c / 64) 0 / 2 ^ k) z ∙ div-one (get_or ws (c / 64) 0) ∙ value_word ws (c / 64) f ∙ ap (λ (k : ℕ). window_bits k 64 (value ws)) e

  -- everywhere they are the upper bits of a word and the lower bits of the next
  pub window_words : bit_or (get_or ws (c / 64) 0 / 2 ^ (c % 64)) (get_or ws (c / 64 + 1) 0 * 2 ^ (64 - c % 64) % 18446744073709551616) ≡ window_bits c 64 (value ws)
  window_words =
      let s : ℕ = c % 64 in
      let d : ℕ = 64 - s in
      let l : ℕ = c / 64 in
      let x : ℕ = get_or ws l 0 in
      let y : ℕ = get_or ws (l + 1) 0 in
      let u : ℕ = value ws / 2 ^ (64 * l) in
      let sd : s + d ≡ 64 = omega arith in
      let ds : 64 ≡ d + s = omega arith in
      let cs : 64 * l + s ≡ c = omega arith in
      let next : 64 * l + 64 ≡ 64 * (l + 1) = omega arith in
      let back : 64 - d ≡ s = omega arith in
      let up : y * 2 ^ d % 2 ^ 64 ≡ y % 2 ^ s * 2 ^ d = moved_up y d (omega arith) ∙ ap (λ (e : ℕ). y % 2 ^ e * 2 ^ d) back in
      let small : x / 2 ^ s < 2 ^ d = shr_lt d s (subst (λ (e : ℕ). x < 2 ^ e) ds (f l)) in
      let upper : u / 2 ^ s % 2 ^ d ≡ x / 2 ^ s =
      sym (field u d s) ∙ ap (λ (e : ℕ). u % 2 ^ e / 2 ^ s) (sym ds) ∙ ap (λ (n : ℕ). n / 2 ^ s) (sym (value_word ws l f)) in
      let lower : u / 2 ^ s / 2 ^ d % 2 ^ s ≡ y % 2 ^ s =
      ap (λ (n : ℕ). n % 2 ^ s) (shr-shr u s d ∙ ap (λ (e : ℕ). u / 2 ^ e) sd ∙ shr-shr (value ws) (64 * l) 64 ∙ ap (λ (e : ℕ). value ws / 2 ^ e) next)
      ∙ sym (mod-mod-pow (value ws / 2 ^ (64 * (l + 1))) d s)
      ∙ ap (λ (n : ℕ). n % 2 ^ s) (ap (λ (e : ℕ). value ws / 2 ^ (64 * (l + 1)) % 2 ^ e) (sym ds) ∙ sym (value_word ws (l + 1) f)) in
      ap (bit_or (x / 2 ^ s)) up ∙ or_shifted_r (y % 2 ^ s) d (x / 2 ^ s) small
      ∙ sym (ap₂ (λ (p q : ℕ). p * 2 ^ d + q) lower upper)
      ∙ sym (mod-pow-add (u / 2 ^ s) s d)
      ∙ ap₂ (λ (n e : ℕ). n % 2 ^ e) (shr-shr (value ws) (64 * l) s ∙ ap (λ (e : ℕ). value ws / 2 ^ e) cs) sd
