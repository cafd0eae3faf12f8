-- After l turns the first l words from place a on are the sums: add_turn.
use mathlib.Core.Path.{◌≡◌}
use lib.Seq.{paste}
use Rattle.gf2.specs.Rows.{part}
use Rattle.words.specs.Words.{xors}
use Rattle.engine.proofs.rows.add_words.Given as goal

abbrev pub invariant-loop-l : goal.invariant-loop-l
invariant-loop-l l = l.d ≡ paste l.initial.d l.a (xors (part l.a l.v l.initial.d) (part l.b l.v l.s)) l.l
