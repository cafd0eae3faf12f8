-- The table of all sums of r rows, made step by step in Gray code order by way of a local row. What a step adds is one row, and what it stores is the sum of its
-- code; a store over an old row stores the same sum.
use mathlib.Core.Path.{◌≡◌, sym, ap, ap₂, ◌∙◌}
use mathlib.Core.List.{List, [], ◌∷◌, ◌++◌, append-nil}
use Prim.Native.Nat.{ℕ, zero, suc, ◌+◌, ◌-◌, ◌*◌, ◌^◌, ◌<◌, ◌≤◌}
use native.Mathlib.Decide.{dec_lt, ℕ_discrete}
use native.Mathlib.Nat.{lt_of_lt_of_le}
use native.Mathlib.Omega.{arith}
use lib.Bits.{xor_lt}
use lib.Count.{count_trailing_zeros}
use lib.ListN.{length, drop_of_length-le, set, replicate, length-replicate}
use lib.Pow.{pow_pos, pow_mono}
use Rattle.std.proofs.lemmas.List.Edits.{paste_all}
use lib.Seq.{paste, take_all, get_or-set_same, get_or-set_other, ext_get_or, length-paste}
use Rattle.gf2.specs.Additions.{table_additions}
use Rattle.gf2.specs.Rows.{◌⊕◌, row, part, combine}
use Rattle.gf2.proofs.Bits.{bit_above}
use Rattle.gf2.proofs.Pivot.{trailing_pivot}
use Rattle.gf2.proofs.Space.{combine_zero}
use Rattle.words.specs.Words.{Fit, value, rows_of, xors}
use Rattle.words.proofs.Parts.{length_xors, length_part, get_or_part, paste_in}
use Rattle.words.proofs.Value.{value_zeros, value_xors}
use Rattle.words.proofs.Rows.{length_rows, rows_paste}
use Rattle.method.specs.Gray.{gray}
use Rattle.method.proofs.Gray.{gray_onto, gray_step}
use Rattle.method.proofs.Table.{table_step}
use Rattle.engine.specs.Stage.{Table}

-- ---- steps

pub small : (r l : ℕ) → r ≤ 8 → l < 2 ^ r → l < 256
small r l hr hl = lt_of_lt_of_le hl (pow_mono {i = r} {j = 8} hr)

in64 : (r l : ℕ) → r ≤ 8 → l < 2 ^ r → l < 2 ^ 64
in64 r l hr hl = lt_of_lt_of_le hl (pow_mono {i = r} {j = 64} (omega arith))

-- the row that joins at a step is one of the r rows
pub joins_below : (r l : ℕ) → r ≤ 8 → l < 2 ^ r → 0 < l → count_trailing_zeros 64 l < r
joins_below r l hr hl h = go (dec_lt (count_trailing_zeros 64 l) r)
  where
    go : Dec (count_trailing_zeros 64 l < r) → count_trailing_zeros 64 l < r
    go (yes b) = b
    go (no b) = absurd (omega (arith, (trailing_pivot 64 l (in64 r l hr hl) (omega arith)).one, bit_above r (count_trailing_zeros 64 l) l hl (omega arith)))

-- a step adds one row
next_sum : (r l : ℕ) (P : List ℕ) (v : ℕ) → r ≤ 8 → l < 2 ^ r → 0 < l → v ≡ combine (gray (l - 1)) P → v ⊕ row P (count_trailing_zeros 64 l) ≡ combine (gray l) P
next_sum r l P v hr hl h e =
    let z : ℕ = count_trailing_zeros 64 l in
    ap (λ (x : ℕ). x ⊕ row P z) e
    ∙ sym (table_step P (gray (l - 1)) z) ∙ ap (λ (g : ℕ). combine g P) (sym (gray_step 64 l (in64 r l hr hl) (omega arith)))

-- the table rows of the codes of steps 1 to t - 1 are the sums that these codes name
abbrev pub Codes : ℕ → List ℕ → (ℕ → ℕ) → Type 0
Codes t P T = (u : ℕ) → 0 < u → u < t → T (gray u) ≡ combine (gray u) P

-- no code is reached before the first step
pub codes_start : (P : List ℕ) (T : ℕ → ℕ) → Codes 1 P T
codes_start P T u a b = absurd (omega arith)

-- the row of step l stored
codes_more : (l v : ℕ) (P Y X : List ℕ) → gray l < length Y → X ≡ set Y (gray l) v → v ≡ combine (gray l) P → Codes l P (row Y) → Codes (l + 1) P (row X)
codes_more l v P Y X h e ev C u a b = go (ℕ_discrete (gray u) (gray l))
  where
    go : Dec (gray u ≡ gray l) → row X (gray u) ≡ combine (gray u) P
    go (yes q) = ap₂ row e q ∙ get_or-set_same Y (gray l) v 0 h ∙ ev ∙ ap (λ (g : ℕ). combine g P) (sym q)
    go (no q) = ap (λ (Z : List ℕ). row Z (gray u)) e ∙ get_or-set_other Y (gray l) (gray u) v 0 q ∙ C u a (before (ℕ_discrete u l))
      where
        before : Dec (u ≡ l) → u < l
        before (yes s) = absurd (q (ap gray s))
        before (no s) = omega arith

-- every number below 2 ^ r is the code of a step
pub codes_done : (r : ℕ) (P : List ℕ) (T : ℕ → ℕ) → Codes (2 ^ r) P T → Table r P T
codes_done r P T C j h l =
    let g = gray_onto r j l in
    rw (sym g.2) (C g.0 (some g.0 g.2) g.1)
  where
    some : (u : ℕ) → gray u ≡ j → 0 < u
    some u e = go (ℕ_discrete u 0)
      where
        go : Dec (u ≡ 0) → 0 < u
        go (yes z) = absurd (omega (arith, sym (ap gray z) ∙ e))
        go (no z) = omega arith

pub additions_done : (r l : ℕ) → l ≡ 2 ^ r → l - 1 ≡ table_additions r
unfolding table_additions
additions_done r l e = omega arith

-- ---- by way of a local row

-- words just put there
part_put : (m : List ℕ) (a v : ℕ) (y : List ℕ) → a + v ≤ length m → length y ≡ v → part a v (paste m a y v) ≡ y
part_put m a v y h e =
    let p : List ℕ = paste m a y v in
    let lp : length p ≡ length m = length-paste m a y v h (omega arith) in
    let la : length (part a v p) ≡ v = length_part a v p (omega arith) in
    ext_get_or 0 (part a v p) y (la ∙ sym e)
    (λ j l. let hj : j < v = omega arith in get_or_part a v p j hj ∙ paste_in m a y v h (omega arith) j hj)

-- words copied to the local row and on
pub by_local : (b v : ℕ) (s x x' : List ℕ) → v ≤ length x → b + v ≤ length s → x' ≡ paste x 0 (part b v s) v → part 0 v x' ≡ part b v s
by_local b v s x x' hx hs e = ap (part 0 v) e ∙ part_put x 0 v (part b v s) (omega arith) (length_part b v s hs)

-- words added to the whole of it
pub row_added : (v : ℕ) (x y : List ℕ) → length x ≡ v → paste x 0 (xors (part 0 v x) y) v ≡ xors x y
row_added v x y l =
    ap (λ (X : List ℕ). paste x 0 (xors X y) v) (take_all v x (omega (arith, l))) ∙ paste_all x 0 (xors x y) v (sym (length_xors x y ∙ l))
    ∙ ap (λ (X : List ℕ). xors x y ++ X) (drop_of_length-le x (omega (arith, l))) ∙ append-nil (xors x y)

fit_xors : (x y : List ℕ) → Fit x → Fit y → Fit (xors x y)
fit_xors [] ys fx fy i = fx i
fit_xors (x ∷ xs) [] fx fy i = fx i
fit_xors (x ∷ xs) (y ∷ ys) fx fy zero = xor_lt 64 x y (fx 0) (fy 0)
fit_xors (x ∷ xs) (y ∷ ys) fx fy (suc i) = fit_xors xs ys (λ k. fx (suc k)) (λ k. fy (suc k)) i

fit_zeros : (n : ℕ) → Fit (replicate n 0)
fit_zeros zero i = pow_pos 64
fit_zeros (suc n) zero = pow_pos 64
fit_zeros (suc n) (suc i) = fit_zeros n i

-- before step l the local row of v words has the sum of the step before
pub record Local (v l : ℕ) (P x : List ℕ) : Type 0 where
  pub sum : value x ≡ combine (gray (l - 1)) P
  pub long : length x ≡ v
  pub fit : Fit x

-- no row yet
pub local_start : (v : ℕ) (P : List ℕ) → Local v 1 P (replicate v 0)
local_start v P = record { sum = value_zeros v ∙ sym (combine_zero P); long = length-replicate {A = ℕ} v 0; fit = fit_zeros v }

-- the words y of the row that joins are added
pub local_more : (v r l : ℕ) (P y x x' : List ℕ) → r ≤ 8 → 0 < l → l < 2 ^ r → length y ≡ v → Fit y → value y ≡ row P (count_trailing_zeros 64 l)
    → x' ≡ xors x y → Local v l P x → Local v (l + 1) P x'
local_more v r l P y x x' hr h hl ly fy joined e s =
    let q : l + 1 - 1 ≡ l = omega arith in
    let made : value x' ≡ combine (gray l) P =
    ap value e ∙ value_xors x y s.fit fy (omega (arith, s.long)) ∙ ap (λ (k : ℕ). value x ⊕ k) joined ∙ next_sum r l P (value x) hr hl h s.sum in
    record { sum = rw q made; long = ap length e ∙ length_xors x y ∙ s.long; fit = rw e (fit_xors x y s.fit fy) }

-- the local row stored in the table's row of step l
pub codes_turn : (v N l : ℕ) (P t t' x : List ℕ) → gray l < N → N * v ≤ length t → t' ≡ paste t (gray l * v) x v → Local v (l + 1) P x
    → Codes l P (row (rows_of v N t)) → Codes (l + 1) P (row (rows_of v N t'))
codes_turn v N l P t t' x h ht e s C =
    let q : l + 1 - 1 ≡ l = omega arith in
    codes_more l (value x) P (rows_of v N t) (rows_of v N t') (rw (length_rows v N t) h) (ap (rows_of v N) e ∙ rows_paste v N (gray l) t x h ht s.long)
    (s.sum ∙ ap (λ (k : ℕ). combine (gray k) P) q) C
