-- A turn clears column c + x in one earlier pivot row more: lift_more.
use mathlib.Core.Path.{◌∙◌}
use Rattle.words.proofs.Rows.{length_rows}
use Rattle.engine.proofs.Steps.{lift_more}
use Rattle.engine.proofs.search.Window.lift.Goals as goal

pub loop-p-preserved : goal.loop-p-preserved
loop-p-preserved c =
    let l = c.loop-p in
    let e = c.clear_row.ensures in
    (lift_more _ _ _ l.p _ _ _ l.auto.p c.loop-p-test.true (rw length_rows c.requires.1) l.invariant.0 e.rows, e.past ∙ l.invariant.1)
