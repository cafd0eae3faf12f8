-- The padding check: rows are narrow one by one, and by their last words.
use mathlib.Core.Path.{◌≡◌, refl, sym, ap₂, subst}
use mathlib.Core.Logic.{◌≢◌, ◌↔◌}
use mathlib.Core.Bool.{Bool, true, false, ◌&&◌}
use mathlib.Core.List.{List, [], ◌∷◌}
use Prim.Native.Nat.{ℕ, zero, suc, ◌*◌, ◌/◌, ◌^◌, ◌≤◌, ◌<◌}
use native.Mathlib.Decide.{dec_lt}
use native.Mathlib.Nat.{div-lt_iff_lt-mul}
use native.Mathlib.Omega.{arith}
use borrow.Author.Tests.{lt-ltb, le-ltb, le-leb, lt-leb, leb-true, ltb-true}
use lib.Dec.{T, ltb, leb}
use lib.ListN.{length}
use lib.Pow.{pow_pos}
use Rattle.gf2.specs.Rows.{row}
use Rattle.words.specs.Words.{words_of, rows_of, Clean, narrow, holds_rows}
use Rattle.words.proofs.Ranges.{EachBelow}

-- ---- row by row

pub narrow_all : (columns : ℕ) (L : List ℕ) → ((i : ℕ) → i < length L → row L i < 2 ^ columns) → true ≡ narrow columns L
unfolding narrow
narrow_all columns [] h = refl
narrow_all columns (v ∷ L) h = rw (lt-ltb v (2 ^ columns) (h 0 (omega arith))) (narrow_all columns L (λ i l. h (suc i) (omega arith)))

and_false : (b : Bool) → false ≡ b && false
and_false true = refl
and_false false = refl

pub narrow_not : (columns : ℕ) (L : List ℕ) (i : ℕ) → i < length L → (row L i < 2 ^ columns → ⊥) → false ≡ narrow columns L
unfolding narrow
narrow_not columns [] i l h = absurd (omega arith)
narrow_not columns (v ∷ L) zero l h = rw (le-ltb v (2 ^ columns) (go (dec_lt v (2 ^ columns))))
  where
    go : Dec (v < 2 ^ columns) → 2 ^ columns ≤ v
    go (yes k) = absurd (h k)
    go (no k) = omega arith
narrow_not columns (v ∷ L) (suc i) l h = rw (← (narrow_not columns L i (omega arith) h)) (and_false (ltb v (2 ^ columns)))

-- by a test of each row
pub narrow_by : (columns n : ℕ) (L : List ℕ) (b : Bool) → length L ≡ n → EachBelow n b (λ i. row L i < 2 ^ columns) → b ≡ narrow columns L
narrow_by columns n L true e h = narrow_all columns L (λ i l. h i (omega arith))
narrow_by columns n L false e h = narrow_not columns L h.0 (omega (arith, h.1)) h.2

-- what narrow means
pub narrow_row : (columns : ℕ) (L : List ℕ) → narrow columns L ≡ true → (i : ℕ) → row L i < 2 ^ columns
unfolding narrow
narrow_row columns [] e i = pow_pos columns
narrow_row columns (v ∷ L) e i = go (ltb v (2 ^ columns)) refl e (narrow_row columns L) i
  where
    go : (b : Bool) → ltb v (2 ^ columns) ≡ b → b && narrow columns L ≡ true → (narrow columns L ≡ true → (i : ℕ) → row L i < 2 ^ columns) → (i : ℕ) → row (v ∷ L) i < 2 ^ columns
    go true t e ih zero = ltb-true v (2 ^ columns) t
    go true t e ih (suc i) = ih e i
    go false t e ih i = absurd (subst T (sym e) tt)

-- ---- the three ways of `holds`

-- rows of no words are zero
no_words : (columns rows : ℕ) (m : List ℕ) → true ≡ narrow columns (rows_of 0 rows m)
unfolding narrow rows_of
no_words columns zero m = refl
no_words columns (suc rows) m = rw (lt-ltb 0 (2 ^ columns) (pow_pos columns)) (no_words columns rows m)

pub holds_none : (rows columns : ℕ) (m : List ℕ) → words_of columns ≡ 0 → true ≡ holds_rows rows columns m
holds_none rows columns m e = go (words_of columns) e
  where
    go : (w : ℕ) → w ≡ 0 → true ≡ leb (rows * w) (length m) && narrow columns (rows_of w rows m)
    go w e = rw (e, le-leb (rows * 0) (length m) (omega arith)) (no_words columns rows m)

pub holds_short : (rows columns : ℕ) (m : List ℕ) → words_of columns ≢ 0 → length m / words_of columns < rows → false ≡ holds_rows rows columns m
holds_short rows columns m h l = rw (lt-leb (rows * words_of columns) (length m) ((div-lt_iff_lt-mul (omega arith)).0 l))

pub holds_fits : (rows w len : ℕ) → w ≢ 0 → rows ≤ len / w → rows * w ≤ len
holds_fits rows w len h l = go (dec_lt len (rows * w))
  where
    go : Dec (len < rows * w) → rows * w ≤ len
    go (yes k) = absurd (omega (arith, (div-lt_iff_lt-mul {k = w} (omega arith)).1 k))
    go (no k) = omega arith

pub holds_narrow : (rows columns : ℕ) (m : List ℕ) → rows * words_of columns ≤ length m → narrow columns (rows_of (words_of columns) rows m) ≡ holds_rows rows columns m
holds_narrow rows columns m l = rw (le-leb (rows * words_of columns) (length m) l)

-- what `holds_rows` says
pub holds_exactly : (rows columns : ℕ) (m : List ℕ) → (holds_rows rows columns m ≡ true) ↔ ((rows * words_of columns ≤ length m) × Clean rows columns m)
holds_exactly rows columns m = (go (leb (rows * words_of columns) (length m)) refl, back)
  where
    L : List ℕ
    L = rows_of (words_of columns) rows m

    back : (rows * words_of columns ≤ length m) × Clean rows columns m → holds_rows rows columns m ≡ true
    back t = ap₂ ◌&&◌ (le-leb (rows * words_of columns) (length m) t.0) (sym (narrow_all columns L (λ i l. t.1 i)))

    go : (b : Bool) → leb (rows * words_of columns) (length m) ≡ b → b && narrow columns L ≡ true → (rows * words_of columns ≤ length m) × Clean rows columns m
    go true t e = (leb-true (rows * words_of columns) (length m) t, narrow_row columns L e)
    go false t e = absurd (subst T (sym e) tt)
