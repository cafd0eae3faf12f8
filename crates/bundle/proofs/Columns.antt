-- Where a column of a matrix stands in the bytes of its body, for each kind.
use mathlib.Core.Path.{◌≡◌, refl, ap, ◌∙◌}
use mathlib.Core.Bool.{Bool, cond}
use mathlib.Core.List.{List}
use mathlib.Core.Logic.{◌≢◌}
use Prim.Native.Nat.{ℕ, ◌+◌, ◌-◌, ◌*◌, ◌/◌, ◌%◌, ◌<◌}
use native.Mathlib.Omega.{arith}
use borrow.Author.Tests.{eq-eqb, ne_eqb}
use Rattle.gf2.specs.Rows.{bit, row}
use Rattle.words.specs.Words.{words_of}
use Rattle.words.proofs.Rows.{get_or_rows, row_ends}
use Rattle.words.proofs.Value.{part_bit}
use Rattle.wire.specs.Bytes.{Bytes, num}
use Rattle.wire.specs.Kinds.{order, reversed, words_at}
use Rattle.wire.proofs.Orders.{get_or_words, words_fit}
use Rattle.wire.proofs.Reversal.{weight}
use Rattle.bundle.specs.Bundle.{body_words, matrix_at}

module _ (kind p rows columns : ℕ) (b : List ℕ) (f : Bytes b) (i c : ℕ) (hi : i < rows) (hc : c < columns) where
  abbrev word : ℕ
  word = num 8 (p + 8 * (i * words_of columns + c / 64)) b

  -- column c of row i is bit c % 64 of the row's word c / 64, in the order of kind 1
  pub column : bit c (row (matrix_at kind p rows columns b) i) ≡ bit (c % 64) (order kind (num 8 (p + 8 * (i * words_of columns + c / 64)) b))
  unfolding matrix_at body_words
  column =
      let w : ℕ = words_of columns in
      let m : List ℕ = words_at kind p (rows * w) b in
      let h : c / 64 < w = omega arith in
      ap (bit c) (get_or_rows w rows m i hi) ∙ part_bit m (i * w) w c (words_fit kind p (rows * w) b f) h
      ∙ ap (bit (c % 64)) (get_or_words kind p (rows * w) b (i * w + c / 64) (omega (arith, row_ends i rows w hi)))

  -- THEOREM: in kind 2 it has weight 2 ^ (63 - c mod 64)
  pub column_reversed : kind ≡ 2 → bit c (row (matrix_at kind p rows columns b) i) ≡ bit (63 - c % 64) (num 8 (p + 8 * (i * words_of columns + c / 64)) b)
  unfolding order
  column_reversed e =
      let h : c % 64 < 64 = omega arith in
      column ∙ ap (λ (t : Bool). bit (c % 64) (cond t (reversed 64 word) word)) (eq-eqb kind 2 e) ∙ weight word (c % 64) h

  -- THEOREM: in any other kind it has weight 2 ^ (c mod 64)
  pub column_straight : kind ≢ 2 → bit c (row (matrix_at kind p rows columns b) i) ≡ bit (c % 64) (num 8 (p + 8 * (i * words_of columns + c / 64)) b)
  unfolding order
  column_straight ne = column ∙ ap (λ (t : Bool). bit (c % 64) (cond t (reversed 64 word) word)) (ne_eqb kind 2 ne)

-- THEOREM: the two kinds of a bundle
module _ (p rows columns : ℕ) (b : List ℕ) (f : Bytes b) (i c : ℕ) (hi : i < rows) (hc : c < columns) where
  pub column_1 : bit c (row (matrix_at 1 p rows columns b) i) ≡ bit (c % 64) (num 8 (p + 8 * (i * words_of columns + c / 64)) b)
  column_1 = column_straight 1 p rows columns b f i c hi hc (λ (e : ◌≡◌ {A = ℕ} 1 2). omega arith)

  pub column_2 : bit c (row (matrix_at 2 p rows columns b) i) ≡ bit (63 - c % 64) (num 8 (p + 8 * (i * words_of columns + c / 64)) b)
  column_2 = column_reversed 2 p rows columns b f i c hi hc refl
