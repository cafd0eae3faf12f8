-- After l turns the first l words of the two rows, which do not overlap, have changed places: swap_turn.
use mathlib.Core.Path.{◌≡◌}
use lib.Seq.{paste}
use Rattle.gf2.specs.Rows.{part}
use Rattle.engine.proofs.rows.swap_rows.Given as goal

abbrev pub invariant-loop-l : goal.invariant-loop-l
invariant-loop-l l = l.d ≡ paste (paste l.initial.d l.a (part l.b l.w l.initial.d) l.l) l.b (part l.a l.w l.initial.d) l.l
