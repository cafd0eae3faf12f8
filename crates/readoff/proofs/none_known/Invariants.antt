-- After j turns the first j blocks are unknown.
use lib.ListN.{length}
use Rattle.words.specs.Words.{value}
use Rattle.readoff.proofs.Saying.{Unknown}
use Rattle.readoff.proofs.none_known.Given as goal

abbrev pub invariant-loop-j : goal.invariant-loop-j
invariant-loop-j l = Unknown (value l.unknown) (length l.unknown) l.image l.marks l.j
