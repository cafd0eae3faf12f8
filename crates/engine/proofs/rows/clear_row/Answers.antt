-- Row p is added if row i has a one in column c; else nothing is, and pick gives 0: clear_one, clear_none.
use mathlib.Core.Path.{refl, sym, ap, ◌∙◌}
use mathlib.Core.List.{List}
use Prim.Native.Nat.{ℕ, ◌*◌}
use native.Mathlib.Omega.{arith}
use borrow.Author.Rules.{rules}
use lib.ListN.{drop}
use Rattle.gf2.specs.Rows.{bit}
use Rattle.words.specs.Words.{rows_of, xors, Fit}
use Rattle.words.proofs.Parts.{length_xors, length_part}
use Rattle.words.proofs.Value.{fits_fit}
use Rattle.words.proofs.Rows.{row_ends, get_or_rows, rows_added, rest_paste, clear_one, clear_none}
use Rattle.engine.specs.Stage.{row_words}
use Rattle.engine.proofs.rows.clear_row.Goals as goal

pub returns-then-is_one : goal.returns-then-is_one
returns-then-is_one c =
    let g = c.args in
    let p = c.requires in
    let m = g.m.now in
    let L : List ℕ = rows_of g.w g.n m in
    let f : Fit m = fits_fit m (search rules) in
    let x : List ℕ = xors (row_words g.i g.w m) (row_words g.p g.w m) in
    let words = length_xors (row_words g.i g.w m) (row_words g.p g.w m) ∙ length_part (g.i * g.w) g.w m (omega (arith, row_ends g.i g.n g.w p.3)) in
    record {
      rows = ap (rows_of g.w g.n) c.add_within.ensures ∙ rows_added g.w g.n g.i g.p g.n m m p.3 p.2 p.0 f f ∙ clear_one g.c g.p g.i L (ap (bit g.c) (get_or_rows g.w g.n m g.i p.3) ∙ c.if-is_one.ensures);
      past = ap (drop (g.n * g.w)) c.add_within.ensures ∙ rest_paste g.w g.n g.i m x p.3 p.0 words;
    }

pub returns-else-is_one : goal.returns-else-is_one
returns-else-is_one c =
    let g = c.args in
    let e = get_or_rows g.w g.n g.m.now g.i c.requires.3 in
    record { rows = clear_none g.c g.p g.i (rows_of g.w g.n g.m.now) (λ one. c.if-is_one.ensures (ap (bit g.c) (sym e) ∙ one)); past = refl }
