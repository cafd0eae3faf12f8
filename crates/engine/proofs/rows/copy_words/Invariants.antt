-- After l turns the first l words from place a on are those of s: copy_turn.
use mathlib.Core.Path.{◌≡◌}
use lib.Seq.{paste}
use Rattle.gf2.specs.Rows.{part}
use Rattle.engine.proofs.rows.copy_words.Given as goal

abbrev pub invariant-loop-l : goal.invariant-loop-l
invariant-loop-l l = l.d ≡ paste l.initial.d l.a (part l.b l.v l.s) l.l
