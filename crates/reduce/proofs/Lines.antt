-- The rows of a reduced matrix that are not zero are its first ones, as many as its rank.
use mathlib.Core.Path.{◌≡◌, refl, sym, ap, ap₂, ◌∙◌, subst}
use mathlib.Core.Logic.{◌≢◌}
use mathlib.Core.Bool.{Bool, true, false, cond}
use mathlib.Core.List.{List, [], ◌∷◌, ◌++◌, append_assoc, append-nil}
use Prim.Native.Nat.{ℕ, suc, ◌+◌, ◌-◌, ◌*◌, ◌<◌, ◌≤◌}
use native.Mathlib.Numerals.{add-one}
use native.Mathlib.Omega.{arith}
use native.Mathlib.Nat.{le_trans}
use lib.Dec.{eqb}
use lib.ListN.{length, take, drop, take-append-drop}
use lib.Seq.{take-suc, get_or-drop}
use borrow.Author.Tests.{eq-eqb, ne_eqb}
use Rattle.gf2.specs.Rows.{row}
use Rattle.gf2.specs.Reduced.{Reduced, rank}
use Rattle.gf2.proofs.Pivots.{rank_rest}
use Rattle.words.specs.Words.{value, words_of, rows_of}
use Rattle.words.proofs.Rows.{length_rows, get_or_rows, row_ends}
use Rattle.text.specs.Text.{newline, bits}
use Rattle.reduce.specs.Report.{row_lines}

-- the lines of rows after rows
lines_append : (columns : ℕ) (R S : List ℕ) → row_lines columns (R ++ S) ≡ row_lines columns R ++ row_lines columns S
unfolding row_lines
lines_append columns [] S = refl
lines_append columns (v ∷ R) S = go (eqb v 0) (lines_append columns R S)
  where
    go : (t : Bool) → row_lines columns (R ++ S) ≡ row_lines columns R ++ row_lines columns S
        → cond t (row_lines columns (R ++ S)) (bits columns v ++ newline ++ row_lines columns (R ++ S))
        ≡ cond t (row_lines columns R) (bits columns v ++ newline ++ row_lines columns R) ++ row_lines columns S
    go true ih = ih
    go false ih = ap (λ (l : List ℕ). bits columns v ++ newline ++ l) ih ∙ sym (append_assoc (bits columns v ++ newline) (row_lines columns R) (row_lines columns S))

-- a row more
pub lines_more : (columns i v : ℕ) (R : List ℕ) → i < length R → v ≡ row R i → v ≢ 0 → row_lines columns (take i R) ++ (bits columns v ++ newline) ≡ row_lines columns (take (i + 1) R)
unfolding row_lines
lines_more columns i v R h e ne =
    sym (ap (row_lines columns) (ap (λ (k : ℕ). take k R) (add-one i) ∙ take-suc R i 0 h ∙ ap (λ (x : ℕ). take i R ++ (x ∷ [])) (sym e))
    ∙ lines_append columns (take i R) (v ∷ [])
    ∙ ap (λ (l : List ℕ). row_lines columns (take i R) ++ l) (ap (λ (t : Bool). cond t [] (bits columns v ++ newline ++ [])) (ne_eqb v 0 ne) ∙ append-nil (bits columns v ++ newline)))

no_lines : (columns : ℕ) (S : List ℕ) → ((i : ℕ) → row S i ≡ 0) → row_lines columns S ≡ []
unfolding row_lines
no_lines columns [] z = refl
no_lines columns (v ∷ S) z =
    ap (λ (t : Bool). cond t (row_lines columns S) (bits columns v ++ newline ++ row_lines columns S)) (eq-eqb v 0 (z 0)) ∙ no_lines columns S (λ i. z (suc i))

-- the rows past the rank take no line
pub lines_whole : (columns : ℕ) (R : List ℕ) → Reduced R → row_lines columns (take (rank R) R) ≡ row_lines columns R
lines_whole columns R red =
    let rest : row_lines columns (drop (rank R) R) ≡ [] = no_lines columns (drop (rank R) R) (λ i. get_or-drop (rank R) R i 0 ∙ rank_rest R red (rank R + i) (omega arith)) in
    sym (ap (row_lines columns) (sym (take-append-drop (rank R) R))
    ∙ lines_append columns (take (rank R) R) (drop (rank R) R)
    ∙ ap (λ (l : List ℕ). row_lines columns (take (rank R) R) ++ l) rest
    ∙ append-nil (row_lines columns (take (rank R) R)))

-- row i of n rows ends inside the words
pub row_inside : (i n w W len : ℕ) → i < n → w ≡ W → n * W ≤ len → i * w + w ≤ len
row_inside i n w W len h e l = subst (λ (x : ℕ). i * x + x ≤ len) (sym e) (le_trans (row_ends i n W h) l)

-- a row more of the rows that words hold
pub words_more : (columns i n w a e : ℕ) (m : List ℕ) → i < n → w ≡ words_of columns → a ≡ i * w → e ≡ a + w
    → ((j : ℕ) → j < n → row (rows_of (words_of columns) n m) j ≢ 0)
    → row_lines columns (take i (rows_of (words_of columns) n m)) ++ (bits columns (value (take (e - a) (drop a m))) ++ newline) ≡ row_lines columns (take (i + 1) (rows_of (words_of columns) n m))
words_more columns i n w a e m h ew ea ee ne =
    let R : List ℕ = rows_of (words_of columns) n m in
    let d : e - a ≡ w = omega (arith, ee) in
    let v : value (take (e - a) (drop a m)) ≡ row R i =
    ap₂ (λ (x y : ℕ). value (take x (drop y m))) (d ∙ ew) (ea ∙ ap (λ (x : ℕ). i * x) ew) ∙ sym (get_or_rows (words_of columns) n m i h) in
    lines_more columns i (value (take (e - a) (drop a m))) R (subst (λ (k : ℕ). i < k) (sym (length_rows (words_of columns) n m)) h) v (λ z. ne i h (sym v ∙ z))
