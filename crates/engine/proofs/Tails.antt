-- Rows handled from word z on, the last v of their w words: what a sum stored there does to the rows, and what it is that rows whose first z words are zero add up to.
use mathlib.Core.Path.{◌≡◌, refl, sym, ap, ap₂, ◌∙◌, subst}
use mathlib.Core.Logic.{◌≢◌}
use mathlib.Core.List.{List, ◌++◌, map, append_assoc}
use Prim.Native.Nat.{ℕ, zero, suc, ◌+◌, ◌*◌, ◌%◌, ◌^◌, ◌<◌, ◌≤◌}
use native.Mathlib.Decide.{ℕ_discrete}
use native.Mathlib.Nat.{add-zero, add_assoc, zero-mul, add-mul}
use native.Mathlib.Omega.{arith}
use lib.Bits.{xor_block, xor_zero_r}
use lib.ListN.{length, get_or, set, take, drop, length-map, length-append}
use lib.Pow.{low, pow_pos}
use lib.Seq.{paste, ext_get_or, take_all, take-add, drop-drop, length-take-le, get_or-take, take-take, take-append-le, drop_at}
use Rattle.gf2.specs.Rows.{◌⊕◌, row, part, pick, combine}
use Rattle.gf2.proofs.Space.{combine_zero, combine_map}
use Rattle.gf2.proofs.Products.{tabulate_row, tabulate_length, is_tabulate, map_row}
use Rattle.words.specs.Words.{Fit, value, rows_of, xors}
use Rattle.words.proofs.Parts.{length_xors, length_part, part_same}
use Rattle.words.proofs.Value.{value_lt, value_append, value_xors, part_fits}
use Rattle.words.proofs.Rows.{row_ends, length_rows, get_or_rows, rows_paste}
use Rattle.method.proofs.Pending.{part_row}
use Rattle.engine.specs.Stage.{spaced, Table, table_row, added, cleared}

-- ---- words

-- a store past word b, seen from there
pub paste_behind : (m : List ℕ) (b k : ℕ) (y : List ℕ) (v : ℕ) → b ≤ length m → drop b (paste m (b + k) y v) ≡ paste (drop b m) k y v
paste_behind m b k y v h =
    let A : List ℕ = take b m in
    let B : List ℕ = take k (drop b m) in
    let Y : List ℕ = take v y in
    let D : List ℕ = drop (b + k + v) m in
    ap (λ (X : List ℕ). drop b ((X ++ Y) ++ D)) (take-add b k m)
    ∙ ap (λ (X : List ℕ). drop b (X ++ D)) (append_assoc A B Y)
    ∙ ap (drop b) (append_assoc A (B ++ Y) D)
    ∙ drop_at A ((B ++ Y) ++ D) b (length-take-le b m h)
    ∙ ap (λ (X : List ℕ). (B ++ Y) ++ X) (ap (λ (i : ℕ). drop i m) (add_assoc b k v) ∙ sym (drop-drop (k + v) b m))

-- and from before it
pub paste_front : (m : List ℕ) (b a : ℕ) (y : List ℕ) (v : ℕ) → b ≤ a → a ≤ length m → take b (paste m a y v) ≡ take b m
paste_front m b a y v h l =
    let la : length (take a m) ≡ a = length-take-le a m l in
    take-append-le b (take a m ++ take v y) (drop (a + v) m) (omega (arith, length-append (take a m) (take v y)))
    ∙ take-append-le b (take a m) (take v y) (omega arith) ∙ take-take b a m h

-- a part before word b
pub part_front : (b a v : ℕ) (m m₀ : List ℕ) → a + v ≤ b → b ≤ length m → b ≤ length m₀ → take b m ≡ take b m₀ → part a v m ≡ part a v m₀
part_front b a v m m₀ h l l₀ e =
    part_same m m₀ a v (omega arith) (omega arith)
    (λ j hj. let i : a + j < b = omega arith in sym (get_or-take b m (a + j) 0 i) ∙ ap (λ (X : List ℕ). get_or X (a + j) 0) e ∙ get_or-take b m₀ (a + j) 0 i)

-- a store into the end of a part is a store of the whole part
paste_tail : (m : List ℕ) (a z v : ℕ) (y : List ℕ) → a + z ≤ length m → length y ≡ v → paste m (a + z) y v ≡ paste m a (part a z m ++ y) (z + v)
paste_tail m a z v y h l =
    let A : List ℕ = part a z m in
    let all : length (A ++ y) ≤ z + v = omega (arith, length-append A y, length_part a z m h) in
    let short : length y ≤ v = omega arith in
    ap (λ (X : List ℕ). (X ++ take v y) ++ drop (a + z + v) m) (take-add a z m)
    ∙ ap (λ (X : List ℕ). ((take a m ++ A) ++ X) ++ drop (a + z + v) m) (take_all v y short)
    ∙ ap₂ (λ (X : List ℕ) (i : ℕ). X ++ drop i m) (append_assoc (take a m) A y) (add_assoc a z v)
    ∙ ap (λ (X : List ℕ). (take a m ++ X) ++ drop (a + (z + v)) m) (sym (take_all (z + v) (A ++ y) all))

part_split : (a z v : ℕ) (m : List ℕ) → part a (z + v) m ≡ part a z m ++ part (a + z) v m
part_split a z v m = take-add z v (drop a m) ∙ ap (λ (X : List ℕ). part a z m ++ take v X) (drop-drop z a m)

-- ---- numbers

-- a number z words up
up_zero : (s : ℕ) → 0 * 2 ^ s ≡ 0
up_zero s = zero-mul (2 ^ s)

up_sum : (s a b : ℕ) → (a ⊕ b) * 2 ^ s ≡ a * 2 ^ s ⊕ b * 2 ^ s
up_sum s a b =
    sym (ap₂ (λ (x y : ℕ). x ⊕ y) (sym (add-zero (a * 2 ^ s))) (sym (add-zero (b * 2 ^ s))) ∙ xor_block s a b 0 0 (pow_pos s) (pow_pos s) ∙ add-zero ((a ⊕ b) * 2 ^ s))

part_number : (a z v : ℕ) (m : List ℕ) → a + z ≤ length m → value (part a (z + v) m) ≡ value (part (a + z) v m) * 2 ^ (64 * z) + value (part a z m)
part_number a z v m h =
    ap value (part_split a z v m) ∙ value_append (part a z m) (part (a + z) v m)
    ∙ ap (λ (l : ℕ). value (part (a + z) v m) * 2 ^ (64 * l) + value (part a z m)) (length_part a z m h)

part_below : (a z : ℕ) (m : List ℕ) → a + z ≤ length m → Fit m → value (part a z m) < 2 ^ (64 * z)
part_below a z m h f = subst (λ (l : ℕ). value (part a z m) < 2 ^ (64 * l)) (length_part a z m h) (value_lt (part a z m) (part_fits m a z f))

-- ---- rows

pub spaced_row : (a w v r : ℕ) (m : List ℕ) (b : ℕ) → b < r → row (spaced a w v r m) b ≡ value (part (a + b * w) v m)
unfolding spaced
spaced_row a w v r m b h = tabulate_row r (λ b. value (part (a + b * w) v m)) b h

module _ (w z v n : ℕ) (m : List ℕ) (e : z + v ≡ w) (hm : n * w ≤ length m) (fm : Fit m) where
  in_row : (i : ℕ) → i < n → i * w + z ≤ length m
  in_row i h = omega (arith, row_ends i n w h)

  row_number : (i : ℕ) → i < n → row (rows_of w n m) i ≡ value (part (i * w + z) v m) * 2 ^ (64 * z) + value (part (i * w) z m)
  row_number i h =
      get_or_rows w n m i h ∙ ap (λ (k : ℕ). value (part (i * w) k m)) (sym e) ∙ part_number (i * w) z v m (in_row i h)

  -- v words added to the end of row i
  pub tail_added : (i : ℕ) (y : List ℕ) → i < n → length y ≡ v → Fit y
      → rows_of w n (paste m (i * w + z) (xors (part (i * w + z) v m) y) v) ≡ set (rows_of w n m) i (row (rows_of w n m) i ⊕ value y * 2 ^ (64 * z))
  tail_added i y h ly fy =
      let a : ℕ = i * w in
      let A : List ℕ = part a z m in
      let B : List ℕ = part (a + z) v m in
      let k : ℕ = 64 * z in
      let end : a + z + v ≤ length m = omega (arith, row_ends i n w h) in
      let lA : length A ≡ z = length_part a z m (in_row i h) in
      let lB : length B ≡ v = length_part (a + z) v m end in
      let lX : length (xors B y) ≡ v = length_xors B y ∙ lB in
      let lR : length (A ++ xors B y) ≡ w = length-append A (xors B y) ∙ ap₂ (λ (p q : ℕ). p + q) lA lX ∙ e in
      let sum : value (A ++ xors B y) ≡ row (rows_of w n m) i ⊕ value y * 2 ^ k =
      value_append A (xors B y)
      ∙ ap₂ (λ (x l : ℕ). x * 2 ^ (64 * l) + value A) (value_xors B y (part_fits m (a + z) v fm) fy (omega arith)) lA
      ∙ sym (ap₂ (λ (p q : ℕ). p ⊕ q) (row_number i h) (sym (add-zero (value y * 2 ^ k)))
      ∙ xor_block k (value B) (value y) (value A) 0 (part_below a z m (in_row i h) fm) (pow_pos k)
      ∙ ap (λ (x : ℕ). (value B ⊕ value y) * 2 ^ k + x) (xor_zero_r (value A))) in
      ap (rows_of w n) (paste_tail m a z v (xors B y) (in_row i h) lX ∙ ap (paste m a (A ++ xors B y)) e)
      ∙ rows_paste w n i m (A ++ xors B y) h hm lR
      ∙ ap (set (rows_of w n m) i) sum

  -- rows whose first z words are zero are their last v words, z words up
  pub rows_up : (base r : ℕ) → base + r ≤ n → ((i : ℕ) → base ≤ i → i < base + r → row (rows_of w n m) i % 2 ^ (64 * z) ≡ 0)
      → part base r (rows_of w n m) ≡ map (λ x. x * 2 ^ (64 * z)) (spaced (base * w + z) w v r m)
  unfolding spaced
  rows_up base r h zeros =
      let L : List ℕ = rows_of w n m in
      let k : ℕ = 64 * z in
      let f : ℕ → ℕ = λ (b : ℕ). value (part (base * w + z + b * w) v m) in
      let lp : length (part base r L) ≡ r = length_part base r L (omega (arith, length_rows w n m)) in
      let ls : length (map (λ (x : ℕ). x * 2 ^ k) (spaced (base * w + z) w v r m)) ≡ r =
      length-map (spaced (base * w + z) w v r m) (λ (x : ℕ). x * 2 ^ k) ∙ tabulate_length r f in
      ext_get_or 0 (part base r L) (map (λ (x : ℕ). x * 2 ^ k) (spaced (base * w + z) w v r m)) (lp ∙ sym ls)
      (λ b l. let hb : b < r = omega arith in
      part_row base r L b hb ∙ at b hb
      ∙ sym (map_row (λ (x : ℕ). x * 2 ^ k) (up_zero k) (spaced (base * w + z) w v r m) b ∙ ap (λ (x : ℕ). x * 2 ^ k) (tabulate_row r f b hb)))
    where
      at : (b : ℕ) → b < r → row (rows_of w n m) (base + b) ≡ value (part (base * w + z + b * w) v m) * 2 ^ (64 * z)
      at b hb =
          let i : ℕ = base + b in
          let hi : i < n = omega arith in
          let q : i * w + z ≡ base * w + z + b * w = omega (arith, add-mul base b w) in
          let rest : value (part (i * w) z m) ≡ 0 =
          sym (low (value (part (i * w + z) v m)) (64 * z) (part_below (i * w) z m (in_row i hi) fm)) ∙ sym (ap (λ (x : ℕ). x % 2 ^ (64 * z)) (row_number i hi)) ∙ zeros i (omega arith) (omega arith) in
          row_number i hi
          ∙ ap₂ (λ (x p : ℕ). value (part p v m) * 2 ^ (64 * z) + x) rest q
          ∙ add-zero (value (part (base * w + z + b * w) v m) * 2 ^ (64 * z))

-- what a number adds
pub pick_some : (j x : ℕ) → j ≢ 0 → pick j x ≡ x
unfolding pick
pick_some zero x h = absurd (h refl)
pick_some (suc j) x h = refl

pub pick_none : (j x : ℕ) → j ≡ 0 → pick j x ≡ 0
unfolding pick
pick_none zero x h = refl
pick_none (suc j) x h = absurd (omega arith)

-- the sums of the last words, added z words up, are the sums of the rows
pub added_cleared : (z v r : ℕ) (o t P Q L : List ℕ) → Table r Q (row (rows_of v (2 ^ r) t)) → P ≡ map (λ x. x * 2 ^ (64 * z)) Q → ((i : ℕ) → i < length L → get_or o i 0 < 2 ^ r)
    → added z o (table_row v t) L ≡ cleared o P L
unfolding added cleared
added_cleared z v r o t P Q L T e small =
    is_tabulate (added z o (table_row v t) L) (length L) g (tabulate_length (length L) f) (λ i h. tabulate_row (length L) f i h ∙ ap (λ (x : ℕ). row L i ⊕ x) (at (get_or o i 0) (small i h) (ℕ_discrete (get_or o i 0) 0)))
  where
    f : ℕ → ℕ
    f i = row L i ⊕ pick (get_or o i 0) (table_row v t (get_or o i 0) * 2 ^ (64 * z))

    g : ℕ → ℕ
    g i = row L i ⊕ combine (get_or o i 0) P

    at : (j : ℕ) → j < 2 ^ r → Dec (j ≡ 0) → pick j (table_row v t j * 2 ^ (64 * z)) ≡ combine j P
    at j h (yes q) = pick_none j (table_row v t j * 2 ^ (64 * z)) q ∙ sym (ap (λ (i : ℕ). combine i P) q ∙ combine_zero P)
    at j h (no q) =
        let some : 0 < j = omega arith in
        pick_some j (table_row v t j * 2 ^ (64 * z)) q
        ∙ ap (λ (x : ℕ). x * 2 ^ (64 * z)) (sym (get_or_rows v (2 ^ r) t j h) ∙ T j some h)
        ∙ sym (ap (combine j) e ∙ combine_map (λ x. x * 2 ^ (64 * z)) (up_zero (64 * z)) (up_sum (64 * z)) j Q)
