-- The checks passed: row i ends within the buffer.
use Rattle.std.proofs.Common.{rules}
use native.Mathlib.Omega.{arith}
use Rattle.matrix.proofs.Calls.{view_ends}
use Rattle.matrix.proofs.row_view.Goals as goal

pub overflow_mul-a : goal.overflow_mul-a
overflow_mul-a c =
    let g = c.args in
    let ends = view_ends g.rows g.columns g.i g.m.now c.view.result (search rules) c.per_row-w.result (search rules) (search rules) in
    omega (arith, c.well_formed.0.0)

pub overflow_add-result : goal.overflow_add-result
overflow_add-result c =
    let g = c.args in
    let ends = view_ends g.rows g.columns g.i g.m.now c.view.result (search rules) c.per_row-w.result (search rules) (search rules) in
    omega (arith, c.well_formed.0.0)

pub offset_bounds-m-a : goal.offset_bounds-m-a
offset_bounds-m-a c =
    let g = c.args in
    let ends = view_ends g.rows g.columns g.i g.m.now c.view.result (search rules) c.per_row-w.result (search rules) (search rules) in
    omega (arith, c.well_formed.0.0)

pub slice_bounds-result-end-in-Ok : goal.slice_bounds-result-end-in-Ok
slice_bounds-result-end-in-Ok c =
    let g = c.args in
    let ends = view_ends g.rows g.columns g.i g.m.now c.view.result (search rules) c.per_row-w.result (search rules) (search rules) in
    omega (arith, c.well_formed.0.0)
