-- The words passed are those of the body, the others as they were.
use mathlib.Core.Path.{◌≡◌}
use lib.ListN.{length}
use lib.Seq.{paste}
use Rattle.wire.specs.Kinds.{words_at}
use Rattle.bundle.proofs.body.fill.Given as goal

abbrev pub invariant-loop-j : goal.invariant-loop-j
invariant-loop-j l = record {
  filled : l.words ≡ paste l.initial.words 0 (words_at l.kind l.at (length l.initial.words) l.b) l.j;
  whole : length l.words ≡ length l.initial.words;
}
