-- A turn clears row i in the column of one pivot row more: settle_more.
use mathlib.Core.Path.{refl, ◌∙◌}
use Rattle.words.proofs.Rows.{length_rows}
use Rattle.engine.proofs.Steps.{settle_start, settle_more}
use Rattle.engine.proofs.search.Window.settle.Goals as goal

pub loop-p-init : goal.loop-p-init
loop-p-init c = (settle_start _ _ _ _ _, refl)

pub loop-p-preserved : goal.loop-p-preserved
loop-p-preserved c =
    let p = c.requires in
    let l = c.loop-p in
    let e = c.clear_row.ensures in
    (settle_more _ _ _ _ _ _ _ _ _ _ p.4 l.auto.p c.loop-p-test.true p.1 (rw length_rows p.2) l.invariant.0 c.from.ensures e.rows, e.past ∙ l.invariant.1)
