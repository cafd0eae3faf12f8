-- A body: its words, its rows, and what a loop over them has done.
use mathlib.Core.Path.{◌≡◌, refl, sym, ap, ap₂, ◌∙◌, subst}
use mathlib.Core.Bool.{Bool, true, false, not}
use mathlib.Core.List.{List, ◌++◌, append-nil}
use mathlib.Core.Logic.{◌≢◌, ◌↔◌}
use Prim.Native.Nat.{ℕ, ◌+◌, ◌-◌, ◌*◌, ◌/◌, ◌%◌, ◌^◌, ◌<◌, ◌≤◌}
use native.Mathlib.Nat.{mul-le-mul_right, lt_of_lt_of_le}
use native.Mathlib.Omega.{arith}
use lib.Dec.{eqb}
use lib.Pow.{pow_mono}
use borrow.Author.Tests.{eqb-true, eq-eqb, not-false}
use lib.ListN.{length, take, get_or, set, drop_of_length-le}
use lib.Seq.{paste, take_all}
use mir.Val.{Fits}
use mir.Syntax.{w8}
use Rattle.gf2.specs.Rows.{row}
use Rattle.words.specs.Words.{words_of, rows_of, flat, narrow}
use Rattle.words.proofs.Parts.{paste_more}
use Rattle.words.proofs.Rows.{length_rows, row_ends, last_word_row, last_word_row_full}
use Rattle.words.proofs.Flat.{flat_rows, rows_flat}
use Rattle.wire.specs.Bytes.{Bytes, num}
use Rattle.wire.specs.Kinds.{order, words_at}
use Rattle.wire.proofs.Bytes.{num_lt}
use Rattle.wire.proofs.Orders.{length_words, get_or_words, words_fit}
use Rattle.words.proofs.Padding.{narrow_all, narrow_not}
use Rattle.bundle.specs.Bundle.{Entry, body_words, matrix_at}

pub small : (n w : ℕ) → n ≤ 512 → w ≤ 16 → n * w ≤ 8192
small n w hn hw = omega (arith, mul-le-mul_right w hn)

pub two_bytes : (p : ℕ) (b : List ℕ) → ((j : ℕ) → Fits w8 (get_or b j 0)) → num 2 p b < 65536
two_bytes p b f = num_lt 2 p b (λ j. (f j).fits)

pub body_same : (rows columns : ℕ) {w : ℕ} → w ≡ words_of columns → rows * w ≡ body_words rows columns
unfolding body_words
body_same rows columns e = ap (λ (x : ℕ). rows * x) e

-- ---- words are written one after the other

paste_all : (d s : List ℕ) (j : ℕ) → length s ≡ length d → length d ≤ j → paste d 0 s j ≡ s
paste_all d s j e h = ap (λ (l : List ℕ). take j s ++ l) (drop_of_length-le d {i = 0 + j} (omega arith)) ∙ append-nil (take j s) ∙ take_all j s (omega arith)

module _ (kind p : ℕ) (b ws₀ ws : List ℕ) (j : ℕ) (e : ws ≡ paste ws₀ 0 (words_at kind p (length ws₀) b) j) where
  abbrev W : List ℕ
  W = words_at kind p (length ws₀) b

  pub fill_turn : (x : ℕ) → j < length ws₀ → x ≡ order kind (num 8 (p + 8 * j) b) → set ws j x ≡ paste ws₀ 0 (words_at kind p (length ws₀) b) (j + 1)
  fill_turn x h ex =
      let z : 0 + j ≡ j = omega arith in
      subst (λ (k : ℕ). set ws k x ≡ paste ws₀ 0 W (j + 1)) z
      (paste_more ws₀ ws 0 W j x e (omega arith) (omega (arith, length_words kind p (length ws₀) b)) (ex ∙ sym (get_or_words kind p (length ws₀) b j h)))

  pub fill_done : length ws₀ ≤ j → ws ≡ words_at kind p (length ws₀) b
  fill_done h = e ∙ paste_all ws₀ W j (length_words kind p (length ws₀) b) h

-- ---- only the last word of a row can hold padding

-- the answer of a test whether a word has a one there
pub past_some : (y : ℕ) (t : Bool) → t ≡ not (eqb y 0) → t ≡ true → y ≡ 0 → ⊥
past_some y t e h z = differ (sym h ∙ e ∙ ap not (eq-eqb y 0 z))
  where
    differ : true ≡ false → ⊥
    differ q = let w : ◌≡◌ {A = ℕ} 0 1 = cc in omega arith

pub past_no : (y : ℕ) (t : Bool) → t ≡ not (eqb y 0) → t ≡ false → y ≡ 0
past_no y t e h = eqb-true y 0 (not-false (eqb y 0) (sym e ∙ h))

-- it lies inside the body
pub last_inside : (i rows columns w p l : ℕ) → i < rows → w ≡ words_of columns → 0 < columns → p + 8 * body_words rows columns ≤ l → p + 8 * (i * w + (w - 1)) + 8 ≤ l
unfolding body_words
last_inside i rows columns w p l h e z f =
    let e₂ : rows * w ≡ rows * words_of columns = ap (λ (x : ℕ). rows * x) e in
    omega (arith, row_ends i rows w h)

module _ (kind p rows columns : ℕ) (b : List ℕ) where
  abbrev M : List ℕ
  M = words_at kind p (body_words rows columns) b

  pub length_matrix : length (matrix_at kind p rows columns b) ≡ rows
  unfolding matrix_at
  length_matrix = length_rows (words_of columns) rows M

  filled : rows * words_of columns ≤ length M
  unfolding body_words
  filled = omega (arith, length_words kind p (rows * words_of columns) b)

  module _ (f : Bytes b) where
    -- the matrix laid out as words gives the body's words back
    pub flat_matrix : flat (words_of columns) (matrix_at kind p rows columns b) ≡ words_at kind p (body_words rows columns) b
    unfolding matrix_at body_words
    flat_matrix =
        flat_rows (words_of columns) rows M (words_fit kind p (body_words rows columns) b f) filled
        ∙ take_all (rows * words_of columns) M (omega (arith, length_words kind p (body_words rows columns) b))

    module _ (i w s x : ℕ) (hi : i < rows) (ew : w ≡ words_of columns) (es : s ≡ columns % 64) (ne : s ≢ 0) (ex : x ≡ order kind (num 8 (p + 8 * (i * w + (w - 1))) b)) where
      last : get_or M (i * words_of columns + (words_of columns - 1)) 0 ≡ x
      unfolding body_words
      last =
          get_or_words kind p (rows * words_of columns) b (i * words_of columns + (words_of columns - 1)) (omega (arith, row_ends i rows (words_of columns) hi))
          ∙ ap (λ (v : ℕ). order kind (num 8 (p + 8 * (i * v + (v - 1))) b)) (sym ew) ∙ sym ex

      pub last_word : (row (matrix_at kind p rows columns b) i < 2 ^ columns) ↔ (x / 2 ^ s ≡ 0)
      unfolding matrix_at
      last_word =
          let t = last_word_row (words_of columns) rows i M columns hi filled (words_fit kind p (body_words rows columns) b f) refl (λ z. ne (es ∙ z)) in
          let e : x / 2 ^ s ≡ get_or M (i * words_of columns + (words_of columns - 1)) 0 / 2 ^ (columns % 64) = ap₂ (λ (y k : ℕ). y / 2 ^ k) (sym last) es in
          ((λ h. e ∙ t.0 h), (λ z. t.1 (sym e ∙ z)))

    pub last_full : columns % 64 ≡ 0 → (i : ℕ) → i < rows → row (matrix_at kind p rows columns b) i < 2 ^ columns
    unfolding matrix_at
    last_full z i hi = last_word_row_full (words_of columns) rows i M columns hi filled (words_fit kind p (body_words rows columns) b f) refl z

  pub all_clean : ((i : ℕ) → i < rows → row (matrix_at kind p rows columns b) i < 2 ^ columns) → true ≡ narrow columns (matrix_at kind p rows columns b)
  all_clean h = narrow_all columns (matrix_at kind p rows columns b) (λ i l. h i (omega (arith, length_matrix)))

  pub not_clean : (i : ℕ) → i < rows → (row (matrix_at kind p rows columns b) i < 2 ^ columns → ⊥) → false ≡ narrow columns (matrix_at kind p rows columns b)
  not_clean i h ne = narrow_not columns (matrix_at kind p rows columns b) i (omega (arith, length_matrix)) ne

-- ---- an entry's rows laid out as words are found again

pub rows_again : (e : Entry) → length e.matrix ≡ e.rows → ((i : ℕ) → row e.matrix i < 2 ^ e.columns)
    → rows_of (words_of e.columns) e.rows (flat (words_of e.columns) e.matrix) ≡ e.matrix
rows_again e l f =
    let w : ℕ = words_of e.columns in
    let h : e.columns ≤ 64 * w = omega arith in
    ap (λ (n : ℕ). rows_of w n (flat w e.matrix)) (sym l) ∙ rows_flat w e.matrix (λ i. lt_of_lt_of_le (f i) (pow_mono {i = e.columns} {j = 64 * w} h))
