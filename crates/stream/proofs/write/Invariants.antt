-- What went so far is the front of the bytes, and the rest is still to go.
use Rattle.std.proofs.Common.{length}
use Rattle.stream.proofs.Moving.{Begun}
use Rattle.stream.proofs.write.Given as goal

abbrev pub invariant-loop-rest : goal.invariant-loop-rest
invariant-loop-rest g l = Begun (g.W.Write.contents l.fn.stream) (g.W.Write.contents l.stream) l.bytes l.rest

abbrev pub decreases-loop-rest : goal.decreases-loop-rest
decreases-loop-rest g l = length l.rest
