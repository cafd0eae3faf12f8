-- Each turn puts the bit of one pivot more above the bits that y has.
use Rattle.engine.specs.Stage.{Gathered}
use Rattle.engine.proofs.bytes.gather.Given as goal

abbrev pub invariant-loop-b : goal.invariant-loop-b
invariant-loop-b l = Gathered l.c l.b l.pivots l.x l.y
