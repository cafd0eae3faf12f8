-- The mask tells whether a byte has a one in column x: kept, added.
use mathlib.Core.Path.{◌≡◌, ◌∙◌}
use native.Mathlib.Omega.{arith}
use lib.ListN.{get_or}
use Rattle.gf2.specs.Rows.{bit, ◌⊕◌, pick}
use Rattle.std.proofs.lemmas.Grind.{elements}
use Rattle.engine.proofs.ByteLaws.{union_more, kept, added}
use Rattle.engine.proofs.bytes.sweep.Goals as goal
use Rattle.engine.proofs.bytes.sweep.Goals.{then-v-one-eq0, else-v-one-eq0}

pub loop-v-preserved : goal.loop-v-preserved
loop-v-preserved c =
    let g = c.args in
    let l = c.loop-v in
    let was = get_or l.o l.v-index 0 in
    let new = c.if-v-one-eq0.v in
    let cleared : new ≡ was ⊕ pick (bit g.x was) g.b =
    elim c.if-v-one-eq0.branch [
      | then-v-one-eq0 w ↦ w.v-is ∙ kept g.x g.b was c.requires w.if-v-one-eq0.true
      | else-v-one-eq0 w ↦ w.v-is ∙ added g.x g.b was c.requires w.if-v-one-eq0.false
    ] in
    (grind (arith, elements), grind (arith, elements), union_more _ _ _ _ _ (omega arith) l.invariant.2)
