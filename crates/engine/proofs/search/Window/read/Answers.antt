-- The byte read is that of row i.
use mathlib.Core.Path.{◌≡◌, sym, ap, ◌∙◌}
use native.Mathlib.Omega.{arith}
use Rattle.std.proofs.lemmas.Grind.{elements}
use Rattle.gf2.specs.Rows.{row}
use Rattle.words.specs.Words.{rows_of, window_bits}
use Rattle.words.proofs.Rows.{get_or_rows}
use Rattle.engine.proofs.ByteLaws.{union_more}
use Rattle.engine.proofs.search.Window.read.Goals as goal

pub loop-i-preserved : goal.loop-i-preserved
loop-i-preserved c =
    let g = c.args in
    let w = g.self in
    let l = c.loop-i in
    let here : c.bits-bits.result ≡ window_bits w.c w.k (row (rows_of w.w w.n g.m.now) l.i) =
    c.bits-bits.ensures ∙ ap (window_bits w.c w.k) (sym (get_or_rows w.w w.n g.m.now l.i (omega arith))) in
    (grind (arith, elements), grind (arith, elements), union_more _ _ _ _ _ (omega arith) l.invariant.2)
