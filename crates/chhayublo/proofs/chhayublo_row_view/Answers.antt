-- The length of the part that the inner call shows decides.
use Rattle.chhayublo.proofs.Shown.{view_none, view_some, view_start}
use native.Mathlib.Omega.{arith}
use Rattle.chhayublo.proofs.chhayublo_row_view.Goals as goal

pub returns-then-words-eq0 : goal.returns-then-words-eq0
returns-then-words-eq0 c = let g = c.args in view_none g.rows g.columns g.i g.m.now c.row_view-shown.result.now c.row_view-shown.ensures.0 c.if-words-eq0.true

pub overflow_mul-result : goal.overflow_mul-result
overflow_mul-result c =
    let g = c.args in
    let v = c.row_view-shown in
    omega (arith, view_start g.rows g.columns g.i g.m.now v.result.now v.ensures.0, c.well_formed.0.0)

pub returns : goal.returns
returns c = let g = c.args in view_some g.rows g.columns g.i g.m.now c.row_view-shown.result.now c.row_view-shown.ensures.0 c.if-words-eq0.false
