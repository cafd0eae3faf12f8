-- The words of two rows change places: rows_swapped, rest_swapped.
use mathlib.Core.Path.{ap, ◌∙◌}
use Prim.Native.Nat.{◌*◌}
use lib.ListN.{drop}
use Rattle.words.specs.Words.{rows_of}
use Rattle.words.proofs.Rows.{rows_swapped, rest_swapped}
use Rattle.engine.proofs.rows.exchange.Goals as goal

pub returns-then-i-p : goal.returns-then-i-p
returns-then-i-p c =
    let g = c.args in
    let p = c.requires in
    record {
      rows = ap (rows_of g.w g.n) c.swap_rows.ensures ∙ rows_swapped g.w g.n g.i g.p g.m.now p.1 p.2 p.0;
      past = ap (drop (g.n * g.w)) c.swap_rows.ensures ∙ rest_swapped g.w g.n g.i g.p g.m.now p.1 p.2 p.0;
    }
