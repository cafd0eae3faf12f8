-- The row that words hold, as one number: its columns are the words' bits, 64 to a word, and what lies past its last column is padding.
use mathlib.Core.Path.{◌≡◌, refl, sym, ap, ap₂, ◌∙◌, subst}
use mathlib.Core.List.{List, [], ◌∷◌, ◌++◌}
use mathlib.Core.Logic.{◌↔◌, ◌≢◌}
use Prim.Native.Nat.{ℕ, zero, suc, ◌+◌, ◌-◌, ◌*◌, ◌/◌, ◌%◌, ◌^◌, ◌<◌, ◌≤◌}
use native.Mathlib.Nat.{zero-add, mul-zero, add-mul, mul_assoc, add_assoc, one-mul, le_of_suc-le-suc, not-suc-le-zero, zero-div, div-one, div-eq_of_lt, div-lt_iff_lt-mul}
use native.Mathlib.Decide.{dec_lt}
use native.Mathlib.Omega.{arith}
use lib.Bits.{xor_block, xor_zero_r}
use lib.Dec.{lit<}
use lib.ListN.{length, get_or, take, drop, replicate, length-take, drop_of_length-le, get_or-eq_default}
use lib.Pow.{low, high, pow-add, pow_pos, shr-shr}
use lib.Seq.{drop-cons, get_or-take, get_or-drop}
use mir.Val.{Fits}
use mir.Syntax.{w64}
use Rattle.gf2.specs.Rows.{bit, ◌⊕◌, part}
use Rattle.gf2.proofs.Bits.{bit_of_zero, bit_mod, bit_shr, bit_above, below_of_bits}
use Rattle.words.specs.Words.{words_of, Fit, value, xors}
use Rattle.words.proofs.Digits.{number_lt, one_number}
use Rattle.words.proofs.Parts.{length_part, get_or_part}

pub value_lt : (ws : List ℕ) → Fit ws → value ws < 2 ^ (64 * length ws)
value_lt = number_lt 64

-- THEOREM: column c of the row is bit c % 64 of word c / 64
pub column_bit : (ws : List ℕ) → Fit ws → (c : ℕ) → bit c (value ws) ≡ bit (c % 64) (get_or ws (c / 64) 0)
column_bit [] f c = bit_of_zero c ∙ sym (bit_of_zero (c % 64))
column_bit (x ∷ ws) f c = go (column_bit ws (λ i. f (suc i))) (dec_lt c 64)
  where
    v : ℕ
    v = value (x ∷ ws)

    go : ((d : ℕ) → bit d (value ws) ≡ bit (d % 64) (get_or ws (d / 64) 0)) → Dec (c < 64) → bit c (value (x ∷ ws)) ≡ bit (c % 64) (get_or (x ∷ ws) (c / 64) 0)
    go ih (yes h) =
        let q : c / 64 ≡ 0 = omega arith in
        let r : c % 64 ≡ c = omega arith in
        sym (bit_mod c 64 v h) ∙ ap (bit c) (low (value ws) 64 (f 0)) ∙ ap₂ (λ (i k : ℕ). bit k (get_or (x ∷ ws) i 0)) (sym q) (sym r)
    go ih (no h) =
        let d : ℕ = c - 64 in
        let e : c ≡ 64 + d = omega arith in
        let q : suc (d / 64) ≡ c / 64 = omega arith in
        let r : d % 64 ≡ c % 64 = omega arith in
        ap (λ (k : ℕ). bit k v) e ∙ sym (bit_shr d 64 v) ∙ ap (bit d) (high (value ws) 64 (f 0)) ∙ ih d
        ∙ ap₂ (λ (i k : ℕ). bit k (get_or (x ∷ ws) i 0)) q r

-- THEOREM: the row has no one past its last column exactly if its words' bits there, the padding, are zero
pub padding : (ws : List ℕ) → Fit ws → (columns : ℕ) → (value ws < 2 ^ columns) ↔ ((c : ℕ) → columns ≤ c → c < 64 * length ws → bit (c % 64) (get_or ws (c / 64) 0) ≡ 0)
padding ws f columns = (
  (λ h c l k. sym (column_bit ws f c) ∙ bit_above columns c (value ws) h l),
  (λ h. below_of_bits columns (value ws) (λ c l. go h c l (dec_lt c (64 * length ws)))),
)
  where
    go : ((c : ℕ) → columns ≤ c → c < 64 * length ws → bit (c % 64) (get_or ws (c / 64) 0) ≡ 0) → (c : ℕ) → columns ≤ c → Dec (c < 64 * length ws) → bit c (value ws) ≡ 0
    go h c l (yes k) = column_bit ws f c ∙ h c l k
    go h c l (no k) = bit_above (64 * length ws) c (value ws) (value_lt ws f) (omega arith)

-- ---- words that fit

pub fits_fit : (m : List ℕ) → ((k : ℕ) → Fits w64 (get_or m k 0)) → Fit m
fits_fit m f k = (f k).fits

pub fit_take : (w : ℕ) (m : List ℕ) → Fit m → Fit (take w m)
fit_take w m f i = go (dec_lt i w)
  where
    go : Dec (i < w) → get_or (take w m) i 0 < 2 ^ 64
    go (yes h) = subst (λ (n : ℕ). n < 2 ^ 64) (sym (get_or-take w m i 0 h)) (f i)
    go (no h) = subst (λ (n : ℕ). n < 2 ^ 64) (sym (get_or-eq_default (take w m) 0 {n = i} (omega (arith, length-take w m)))) (lit< tt)

pub fit_drop : (a : ℕ) (m : List ℕ) → Fit m → Fit (drop a m)
fit_drop a m f i = subst (λ (n : ℕ). n < 2 ^ 64) (sym (get_or-drop a m i 0)) (f (a + i))

pub part_fits : (m : List ℕ) (a w : ℕ) → Fit m → Fit (part a w m)
part_fits m a w f = fit_take w (drop a m) (fit_drop a m f)

-- ---- the number that words hold

pub value_zeros : (w : ℕ) → value (replicate w 0) ≡ 0
value_zeros zero = refl
value_zeros (suc w) = ap (λ (v : ℕ). v * 2 ^ 64 + 0) (value_zeros w)

pub value_xors : (x y : List ℕ) → Fit x → Fit y → length y ≤ length x → value (xors x y) ≡ value x ⊕ value y
value_xors [] [] fx fy h = refl
value_xors [] (y ∷ ys) fx fy h = absurd (not-suc-le-zero h)
value_xors (x ∷ xs) [] fx fy h = sym (xor_zero_r (value (x ∷ xs)))
value_xors (x ∷ xs) (y ∷ ys) fx fy h =
    ap (λ (v : ℕ). v * 2 ^ 64 + (x ⊕ y)) (value_xors xs ys (λ i. fx (suc i)) (λ i. fy (suc i)) (le_of_suc-le-suc h))
    ∙ sym (xor_block 64 (value xs) (value ys) x y (fx 0) (fy 0))

pub value_append : (xs ys : List ℕ) → value (xs ++ ys) ≡ value ys * 2 ^ (64 * length xs) + value xs
value_append [] ys = sym (ap (λ (e : ℕ). value ys * 2 ^ e + 0) (mul-zero 64) ∙ omega arith)
value_append (x ∷ xs) ys =
    let e : 64 * suc (length xs) ≡ 64 * length xs + 64 = omega arith in
    ap (λ (v : ℕ). v * 2 ^ 64 + x) (value_append xs ys)
    ∙ spread (value ys) (2 ^ (64 * length xs)) (value xs) (2 ^ 64) x
    ∙ ap (λ (p : ℕ). value ys * p + (value xs * 2 ^ 64 + x)) (sym (ap (λ (k : ℕ). 2 ^ k) e ∙ pow-add 2 (64 * length xs) 64))
  where
    spread : (y p v q x : ℕ) → (y * p + v) * q + x ≡ y * (p * q) + (v * q + x)
    spread y p v q x = ap (λ (z : ℕ). z + x) (add-mul (y * p) v q ∙ ap (λ (z : ℕ). z + v * q) (mul_assoc y p q)) ∙ add_assoc (y * (p * q)) (v * q) x

-- without its first a words the row is shifted down
pub value_drop : (a : ℕ) (ws : List ℕ) → Fit ws → value (drop a ws) ≡ value ws / 2 ^ (64 * a)
value_drop zero ws f = sym (ap (λ (e : ℕ). value ws / 2 ^ e) (mul-zero 64) ∙ div-one (value ws))
value_drop (suc a) [] f = sym (zero-div (2 ^ (64 * suc a)))
value_drop (suc a) (x ∷ ws) f =
    let e : 64 + 64 * a ≡ 64 * suc a = omega arith in
    value_drop a ws (λ i. f (suc i)) ∙ ap (λ (v : ℕ). v / 2 ^ (64 * a)) (sym (high (value ws) 64 (f 0)))
    ∙ shr-shr (value (x ∷ ws)) 64 (64 * a) ∙ ap (λ (k : ℕ). value (x ∷ ws) / 2 ^ k) e

-- the number and the length fix the words
pub value_one : (x y : List ℕ) → Fit x → Fit y → length x ≡ length y → value x ≡ value y → x ≡ y
value_one = one_number 64

-- column c of the row at word a of a buffer
pub part_bit : (m : List ℕ) (a w c : ℕ) → Fit m → c / 64 < w → bit c (value (part a w m)) ≡ bit (c % 64) (get_or m (a + c / 64) 0)
part_bit m a w c f h = column_bit (part a w m) (part_fits m a w f) c ∙ ap (bit (c % 64)) (get_or_part a w m (c / 64) h)

-- two parts added word by word
pub part_sum : (t m : List ℕ) (a b w : ℕ) → a + w ≤ length t → Fit t → Fit m → value (xors (part a w t) (part b w m)) ≡ value (part a w t) ⊕ value (part b w m)
part_sum t m a b w ha ft fm =
    value_xors (part a w t) (part b w m) (part_fits t a w ft) (part_fits m b w fm) (omega (arith, length_part a w t ha, length-take w (drop b m)))

-- ---- only the last word has padding

last_word : (ws : List ℕ) (w s : ℕ) → Fit ws → length ws ≡ w + 1 → value ws / 2 ^ (64 * w + s) ≡ get_or ws w 0 / 2 ^ s
last_word ws w s f l =
    let none : drop (suc w) ws ≡ [] = drop_of_length-le ws {i = suc w} (omega arith) in
    sym (shr-shr (value ws) (64 * w) s)
    ∙ ap (λ (n : ℕ). n / 2 ^ s) (sym (value_drop w ws f) ∙ ap value (drop-cons ws w 0 (omega arith) ∙ ap (λ (r : List ℕ). get_or ws w 0 ∷ r) none) ∙ zero-add (get_or ws w 0))

-- columns that do not fill the last word: nothing lies past them exactly if the last word, shifted, is zero
pub last_word_padding : (ws : List ℕ) → Fit ws → (columns : ℕ) → length ws ≡ words_of columns → columns % 64 ≢ 0
    → (value ws < 2 ^ columns) ↔ (get_or ws (length ws - 1) 0 / 2 ^ (columns % 64) ≡ 0)
last_word_padding ws f columns l ne =
    let w : ℕ = length ws - 1 in
    let c : 64 * w + columns % 64 ≡ columns = omega arith in
    let e : value ws / 2 ^ columns ≡ get_or ws w 0 / 2 ^ (columns % 64) =
    ap (λ (k : ℕ). value ws / 2 ^ k) (sym c) ∙ last_word ws w (columns % 64) f (omega arith) in (
      (λ h. sym e ∙ div-eq_of_lt h),
      (λ z. let s : value ws / 2 ^ columns < 1 = omega arith in rw one-mul at ((div-lt_iff_lt-mul (pow_pos columns)).0 s)),
    )

-- columns that fill it: nothing ever does
pub last_word_full : (ws : List ℕ) → Fit ws → (columns : ℕ) → length ws ≡ words_of columns → columns % 64 ≡ 0 → value ws < 2 ^ columns
last_word_full ws f columns l e =
    let c : 64 * length ws ≡ columns = omega arith in
    subst (λ (k : ℕ). value ws < 2 ^ k) c (value_lt ws f)
