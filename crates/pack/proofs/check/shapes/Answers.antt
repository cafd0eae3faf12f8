-- The checks of all entries are those of the entries that are left, as long as none refuses.
use mathlib.Core.Path.{sym, ◌∙◌}
use native.Mathlib.Omega.{arith}
use Rattle.bundle.specs.Bundle.{kind_rule}
use Rattle.pack.proofs.Turns.{turn_of, end_of, shapes_turn, shapes_refused, shapes_end}
use Rattle.pack.proofs.check.shapes.Goals as goal

pub returns-in_err-shape : goal.returns-in_err-shape
returns-in_err-shape c =
    let t = turn_of c.loop-kind.kind-iterator c.next.new.self c.next.result _ c.in-Some.is c.next.ensures.steps in
    let e = shapes_refused (kind_rule c.args.two) t c.loop-kind.invariant (cc c.shape.ensures) c.in_err-shape.was in
    grind arith

pub loop-kind-preserved : goal.loop-kind-preserved
loop-kind-preserved c =
    let t = turn_of c.loop-kind.kind-iterator c.next.new.self c.next.result _ c.in-Some.is c.next.ensures.steps in
    shapes_turn (kind_rule c.args.two) t c.loop-kind.invariant (cc c.shape.ensures) c.in_ok-shape.was

pub returns : goal.returns
returns c =
    sym (c.loop-kind.invariant ∙ shapes_end (kind_rule c.args.two) _ _ _ (end_of c.loop-kind.kind-iterator c.next.new.self c.next.result c.in-None.is c.next.ensures.steps))
