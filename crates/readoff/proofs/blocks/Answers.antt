-- Marks are 0 or 1.
use lib.ListN.{length, drop}
use Rattle.words.specs.Words.{value}
use Rattle.readoff.proofs.Saying.{marks_small}
use Rattle.readoff.proofs.blocks.Goals as goal

pub marks_set-requires : goal.marks_set-requires
marks_set-requires c =
    let g = c.args in
    let l = c.loop-i in
    marks_small (value g.unknown.now) (length l.marks) (length g.unknown.now) (drop l.i g.m.now) l.image l.marks l.invariant
