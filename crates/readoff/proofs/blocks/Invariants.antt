-- Before a turn the image shows what the rows from i on say.
use lib.ListN.{length, drop}
use Rattle.words.specs.Words.{value}
use Rattle.readoff.specs.ReadOff.{Shown}
use Rattle.readoff.proofs.blocks.Given as goal

abbrev pub invariant-loop-i : goal.invariant-loop-i
invariant-loop-i l = Shown (value l.unknown) (length l.marks) (length l.unknown) (drop l.i l.m) l.image l.marks
