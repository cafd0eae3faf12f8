-- After l turns the first l words of row i are the sums, and those of row j, which is another, are as they were: within_turn.
use mathlib.Core.Path.{◌≡◌}
use lib.Seq.{paste}
use Rattle.gf2.specs.Rows.{part}
use Rattle.words.specs.Words.{xors}
use Rattle.engine.proofs.rows.add_within.Given as goal

abbrev pub invariant-loop-l : goal.invariant-loop-l
invariant-loop-l l = l.d ≡ paste l.initial.d l.a (xors (part l.a l.w l.initial.d) (part l.b l.w l.initial.d)) l.l
