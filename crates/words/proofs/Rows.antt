-- The n rows of w words at the start of a buffer, as a list of numbers: what a store of words does to that list, and what it leaves alone.
use mathlib.Core.Path.{◌≡◌, refl, sym, ap, ap₂, ◌∙◌, subst}
use mathlib.Core.List.{List, [], ◌∷◌, ◌++◌}
use mathlib.Core.Logic.{◌↔◌, ◌≢◌, inl, inr}
use Prim.Native.Nat.{ℕ, zero, suc, ◌+◌, ◌-◌, ◌*◌, ◌/◌, ◌%◌, ◌^◌, ◌<◌, ◌≤◌}
use native.Mathlib.Nat.{zero-add, zero-mul, suc-mul, suc-add, mul-le-mul_right, le_of_suc-le-suc, not-suc-le-zero}
use native.Mathlib.Decide.{dec_lt, ℕ_discrete}
use native.Mathlib.Omega.{arith}
use lib.Bits.{xor_zero_r}
use lib.ListN.{length, get_or, take, drop, set, length-set, length-drop, length-append}
use lib.Seq.{paste, ext_get_or, get_or-set_same, get_or-set_other, set-get_or, length-paste, length-take-le, take_all, take-nil, take-add, take-take, take-append-le, drop-append-le, drop-drop, set-set}
use Rattle.gf2.specs.Rows.{bit, ◌⊕◌, row, part, swapped, pick}
use Rattle.gf2.proofs.Bits.{bit_lt}
use Rattle.words.specs.Words.{words_of, Fit, value, rows_of, xors}
use Rattle.words.proofs.Parts.{Apart, length_xors, length_part, get_or_part, part_same, paste_before, paste_in, paste_after, drop_past}
use Rattle.words.proofs.Value.{value_one, fit_take, fit_drop, part_fits, part_sum, last_word_padding, last_word_full}

-- ---- where the rows stand

pub row_ends : (i n w : ℕ) → i < n → i * w + w ≤ n * w
row_ends i n w h = omega (arith, mul-le-mul_right w h)

pub row_end : (m : List ℕ) (w n i : ℕ) → n * w ≤ length m → i < n → i * w + w ≤ length m
row_end m w n i hm hi = omega (arith, row_ends i n w hi)

pub apart : (i p w : ℕ) → i ≢ p → Apart (i * w) (p * w) w
apart i p w ne = go (dec_lt i p)
  where
    go : Dec (i < p) → Apart (i * w) (p * w) w
    go (yes l) = inl (row_ends i p w l)
    go (no l) =
        let l' : p < i = omega arith in
        inr (row_ends p i w l')

-- ---- the rows of a buffer

pub length_rows : (w n : ℕ) (m : List ℕ) → length (rows_of w n m) ≡ n
unfolding rows_of
length_rows w zero m = refl
length_rows w (suc n) m = ap suc (length_rows w n (drop w m))

pub get_or_rows : (w n : ℕ) (m : List ℕ) (i : ℕ) → i < n → row (rows_of w n m) i ≡ value (part (i * w) w m)
unfolding rows_of
get_or_rows w zero m i h = absurd (not-suc-le-zero h)
get_or_rows w (suc n) m zero h = ap (λ (k : ℕ). value (part k w m)) (sym (zero-mul w))
get_or_rows w (suc n) m (suc i) h =
    let e : w + i * w ≡ suc i * w = omega (arith, suc-mul i w) in
    get_or_rows w n (drop w m) i (le_of_suc-le-suc h)
    ∙ ap (λ (l : List ℕ). value (take w l)) (drop-drop (i * w) w m ∙ ap (λ (k : ℕ). drop k m) e)

drop_take : (a b : ℕ) (l : List ℕ) → drop a (take (a + b) l) ≡ take b (drop a l)
drop_take zero b l = ap (λ (k : ℕ). take k l) (zero-add b)
drop_take (suc a) b [] = ap (drop (suc a)) (take-nil {A = ℕ} (suc a + b)) ∙ sym (take-nil {A = ℕ} b)
drop_take (suc a) b (x ∷ l) = ap (λ (k : ℕ). drop (suc a) (take k (x ∷ l))) (suc-add a b) ∙ drop_take a b l

-- the rows depend on the first n * w words alone
pub rows_take : (w n : ℕ) (m : List ℕ) → rows_of w n (take (n * w) m) ≡ rows_of w n m
unfolding rows_of
rows_take w zero m = refl
rows_take w (suc n) m =
    let e : suc n * w ≡ w + n * w = omega (arith, suc-mul n w) in
    ap (λ (k : ℕ). value (take w (take k m)) ∷ rows_of w n (drop w (take k m))) e
    ∙ ap₂ (λ (x y : List ℕ). value x ∷ rows_of w n y) (take-take w (w + n * w) m (omega arith)) (drop_take w (n * w) m)
    ∙ ap (λ (l : List ℕ). value (take w m) ∷ l) (rows_take w n (drop w m))

-- rows at the front of longer words
pub rows_front : (w n : ℕ) (x y : List ℕ) → n * w ≤ length x → rows_of w n (x ++ y) ≡ rows_of w n x
unfolding rows_of
rows_front w zero x y h = refl
rows_front w (suc n) x y h =
    let k : suc n * w ≡ w + n * w = omega (arith, suc-mul n w) in
    ap₂ (λ (a c : List ℕ). value a ∷ rows_of w n c) (take-append-le w x y (omega arith)) (drop-append-le w x y (omega arith))
    ∙ ap (λ (L : List ℕ). value (take w x) ∷ L) (rows_front w n (drop w x) y (omega (arith, length-drop w x)))

-- the same rows are the same words
pub rows_one : (w n : ℕ) (a b : List ℕ) → Fit a → Fit b → n * w ≤ length a → n * w ≤ length b → rows_of w n a ≡ rows_of w n b → take (n * w) a ≡ take (n * w) b
unfolding rows_of
rows_one w zero a b fa fb la lb e = ap (λ (k : ℕ). take k a) (zero-mul w) ∙ sym (ap (λ (k : ℕ). take k b) (zero-mul w))
rows_one w (suc n) a b fa fb la lb e =
    let k : suc n * w ≡ w + n * w = omega (arith, suc-mul n w) in
    let hd : value (take w a) ≡ value (take w b) = cc in
    let tl : rows_of w n (drop w a) ≡ rows_of w n (drop w b) = cc in
    let first : take w a ≡ take w b =
    value_one (take w a) (take w b) (fit_take w a fa) (fit_take w b fb) (length-take-le w a (omega arith) ∙ sym (length-take-le w b (omega arith))) hd in
    let rest : take (n * w) (drop w a) ≡ take (n * w) (drop w b) =
    rows_one w n (drop w a) (drop w b) (fit_drop w a fa) (fit_drop w b fb) (omega (arith, length-drop w a)) (omega (arith, length-drop w b)) tl in
    ap (λ (i : ℕ). take i a) k ∙ take-add w (n * w) a ∙ ap₂ ◌++◌ first rest ∙ sym (ap (λ (i : ℕ). take i b) k ∙ take-add w (n * w) b)

-- of buffers that hold nothing else
pub rows_one_all : (w n : ℕ) (a b : List ℕ) → Fit a → Fit b → length a ≡ n * w → length b ≡ n * w → rows_of w n a ≡ rows_of w n b → a ≡ b
rows_one_all w n a b fa fb la lb e =
    sym (take_all (n * w) a (omega arith)) ∙ rows_one w n a b fa fb (omega arith) (omega arith) e ∙ take_all (n * w) b (omega arith)

-- ---- padding: columns that do not fill the last word of a row, and columns that do

module _ (w n i : ℕ) (m : List ℕ) (columns : ℕ) (hi : i < n) (hm : n * w ≤ length m) (f : Fit m) (hw : w ≡ words_of columns) where
  words : length (part (i * w) w m) ≡ w
  words = length_part (i * w) w m (omega (arith, row_ends i n w hi))

  pub last_word_row : columns % 64 ≢ 0 → (row (rows_of w n m) i < 2 ^ columns) ↔ (get_or m (i * w + (w - 1)) 0 / 2 ^ (columns % 64) ≡ 0)
  last_word_row ne =
      let P : List ℕ = part (i * w) w m in
      let last : get_or P (length P - 1) 0 ≡ get_or m (i * w + (w - 1)) 0 =
      ap (λ (k : ℕ). get_or P (k - 1) 0) words ∙ get_or_part (i * w) w m (w - 1) (omega arith) in
      subst (λ (v : ℕ). (v < 2 ^ columns) ↔ (get_or m (i * w + (w - 1)) 0 / 2 ^ (columns % 64) ≡ 0)) (sym (get_or_rows w n m i hi))
      (subst (λ (x : ℕ). (value P < 2 ^ columns) ↔ (x / 2 ^ (columns % 64) ≡ 0)) last
      (last_word_padding P (part_fits m (i * w) w f) columns (words ∙ hw) ne))

  pub last_word_row_full : columns % 64 ≡ 0 → row (rows_of w n m) i < 2 ^ columns
  last_word_row_full e =
      subst (λ (v : ℕ). v < 2 ^ columns) (sym (get_or_rows w n m i hi)) (last_word_full (part (i * w) w m) (part_fits m (i * w) w f) columns (words ∙ hw) e)

-- ---- words r stored in place of row i

module _ (w n i : ℕ) (m r : List ℕ) (hi : i < n) (hm : n * w ≤ length m) (hr : length r ≡ w) where
  abbrev P : List ℕ
  P = paste m (i * w) r w

  ends : (k : ℕ) → k < n → k * w + w ≤ length m
  ends k h = omega (arith, row_ends k n w h)

  lP : length P ≡ length m
  lP = length-paste m (i * w) r w (ends i hi) (omega arith)

  other : (k : ℕ) → k < n → k ≢ i → (j : ℕ) → j < w → get_or P (k * w + j) 0 ≡ get_or m (k * w + j) 0
  other k hk ne j hj = side (apart k i w ne)
    where
      side : Apart (k * w) (i * w) w → get_or P (k * w + j) 0 ≡ get_or m (k * w + j) 0
      side (inl l) = paste_before m (i * w) r w (ends i hi) (omega arith) (k * w + j) (omega arith)
      side (inr l) = paste_after m (i * w) r w (ends i hi) (omega arith) (k * w + j) (omega arith)

  itself : part (i * w) w P ≡ r
  itself =
      let lp : length (part (i * w) w P) ≡ w = length_part (i * w) w P (omega (arith, ends i hi, lP)) in
      ext_get_or 0 (part (i * w) w P) r (lp ∙ sym hr)
      (λ j h. let hj : j < w = omega arith in
      get_or_part (i * w) w P j hj ∙ paste_in m (i * w) r w (ends i hi) (omega arith) j hj)

  at : (k : ℕ) → k < n → Dec (k ≡ i) → row (rows_of w n P) k ≡ row (set (rows_of w n m) i (value r)) k
  at k hk (yes e) =
      get_or_rows w n P k hk ∙ ap (λ (x : ℕ). value (part (x * w) w P)) e ∙ ap value itself
      ∙ sym (get_or-set_same (rows_of w n m) i (value r) 0 (subst (λ (x : ℕ). i < x) (sym (length_rows w n m)) hi))
      ∙ ap (row (set (rows_of w n m) i (value r))) (sym e)
  at k hk (no ne) =
      get_or_rows w n P k hk ∙ ap value (part_same P m (k * w) w (omega (arith, ends k hk, lP)) (ends k hk) (other k hk ne))
      ∙ sym (get_or_rows w n m k hk) ∙ sym (get_or-set_other (rows_of w n m) i k (value r) 0 ne)

  -- no other row changes
  pub rows_paste : rows_of w n (paste m (i * w) r w) ≡ set (rows_of w n m) i (value r)
  rows_paste =
      ext_get_or 0 (rows_of w n P) (set (rows_of w n m) i (value r)) (length_rows w n P ∙ sym (length-set (rows_of w n m) i (value r) ∙ length_rows w n m))
      (λ k h. at k (subst (λ (x : ℕ). k < x) (length_rows w n P) h) (ℕ_discrete k i))

  -- nor does what lies past the rows
  pub rest_paste : drop (n * w) (paste m (i * w) r w) ≡ drop (n * w) m
  rest_paste = drop_past m (i * w) r w (n * w) (row_ends i n w hi) (omega (arith, ends i hi)) (omega arith)

-- words stored past the rows
pub rows_past : (w n : ℕ) (m : List ℕ) (a : ℕ) (x : List ℕ) (len : ℕ) → n * w ≤ a → a + len ≤ length m → rows_of w n (paste m a x len) ≡ rows_of w n m
rows_past w n m a x len h hm =
    let la : length (take a m) ≡ a = length-take-le a m (omega arith) in
    let front : take (n * w) (paste m a x len) ≡ take (n * w) m =
    take-append-le (n * w) (take a m ++ take len x) (drop (a + len) m) (omega (arith, length-append (take a m) (take len x)))
    ∙ take-append-le (n * w) (take a m) (take len x) (omega arith) ∙ take-take (n * w) a m h in
    sym (rows_take w n (paste m a x len)) ∙ ap (rows_of w n) front ∙ rows_take w n m

-- ---- sums of rows

-- row `to` made of row `of` and of w words of any list
pub row_made : (w n to of : ℕ) (t m : List ℕ) (b : ℕ) → to < n → of < n → n * w ≤ length t → Fit t → Fit m
    → rows_of w n (paste t (to * w) (xors (part (of * w) w t) (part b w m)) w) ≡ set (rows_of w n t) to (row (rows_of w n t) of ⊕ value (part b w m))
row_made w n to of t m b ht ho hl ft fm =
    let end : of * w + w ≤ length t = omega (arith, row_ends of n w ho) in
    rows_paste w n to t (xors (part (of * w) w t) (part b w m)) ht hl (length_xors (part (of * w) w t) (part b w m) ∙ length_part (of * w) w t end)
    ∙ ap (set (rows_of w n t) to)
    (part_sum t m (of * w) b w end ft fm ∙ ap (λ (v : ℕ). v ⊕ value (part b w m)) (sym (get_or_rows w n t of ho)))

-- row i made of row k and of row j of any list
pub rows_made : (w n i k j n' : ℕ) (m t : List ℕ) → i < n → k < n → j < n' → n * w ≤ length m → Fit m → Fit t
    → rows_of w n (paste m (i * w) (xors (part (k * w) w m) (part (j * w) w t)) w) ≡ set (rows_of w n m) i (row (rows_of w n m) k ⊕ row (rows_of w n' t) j)
rows_made w n i k j n' m t hi hk hj hm fm ft =
    row_made w n i k m t (j * w) hi hk hm fm ft ∙ ap (λ (v : ℕ). set (rows_of w n m) i (row (rows_of w n m) k ⊕ v)) (sym (get_or_rows w n' t j hj))

-- row j of any list added to row i
pub rows_added : (w n i j n' : ℕ) (m t : List ℕ) → i < n → j < n' → n * w ≤ length m → Fit m → Fit t
    → rows_of w n (paste m (i * w) (xors (part (i * w) w m) (part (j * w) w t)) w) ≡ set (rows_of w n m) i (row (rows_of w n m) i ⊕ row (rows_of w n' t) j)
rows_added w n i j n' m t hi = rows_made w n i i j n' m t hi hi

-- the two ways of clearing column c of row i by row p
module _ (c p i : ℕ) (L : List ℕ) where
  pub clear_one : bit c (row L i) ≡ 1 → set L i (row L i ⊕ row L p) ≡ set L i (row L i ⊕ pick (bit c (row L i)) (row L p))
  unfolding pick
  clear_one e = rw e

  pub clear_none : bit c (row L i) ≢ 1 → L ≡ set L i (row L i ⊕ pick (bit c (row L i)) (row L p))
  unfolding pick
  clear_none ne =
      let z : bit c (row L i) ≡ 0 = omega (arith, bit_lt c (row L i)) in
      rw (z, xor_zero_r (row L i), set-get_or L i 0)

-- ---- two rows exchanged

module _ (w n i k : ℕ) (m : List ℕ) (hi : i < n) (hk : k < n) (hm : n * w ≤ length m) where
  abbrev Q : List ℕ
  Q = paste m (i * w) (part (k * w) w m) w

  words_of_row : (j : ℕ) → j < n → length (part (j * w) w m) ≡ w
  words_of_row j h = length_part (j * w) w m (omega (arith, row_ends j n w h))

  lQ : length Q ≡ length m
  lQ = length-paste m (i * w) (part (k * w) w m) w (omega (arith, row_ends i n w hi)) (omega (arith, words_of_row k hk))

  pub rows_swapped : rows_of w n (paste (paste m (i * w) (part (k * w) w m) w) (k * w) (part (i * w) w m) w) ≡ swapped i k (rows_of w n m)
  rows_swapped =
      rows_paste w n k Q (part (i * w) w m) hk (omega (arith, lQ)) (words_of_row i hi)
      ∙ ap₂ (λ (l : List ℕ) (v : ℕ). set l k v)
      (rows_paste w n i m (part (k * w) w m) hi hm (words_of_row k hk) ∙ ap (set (rows_of w n m) i) (sym (get_or_rows w n m k hk)))
      (sym (get_or_rows w n m i hi))

  pub rest_swapped : drop (n * w) (paste (paste m (i * w) (part (k * w) w m) w) (k * w) (part (i * w) w m) w) ≡ drop (n * w) m
  rest_swapped = rest_paste w n k Q (part (i * w) w m) hk (omega (arith, lQ)) (words_of_row i hi) ∙ rest_paste w n i m (part (k * w) w m) hi hm (words_of_row k hk)

-- a row exchanged with itself
pub swap_same : (i k : ℕ) (L : List ℕ) → i ≡ k → L ≡ swapped i k L
swap_same i k L e = sym (ap (λ (x : ℕ). set (set L i (row L x)) x (row L i)) (sym e) ∙ set-set L i (row L i) (row L i) ∙ set-get_or L i 0)
