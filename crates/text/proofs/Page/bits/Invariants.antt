-- One column after the other.
use Rattle.words.specs.Words.{value}
use Rattle.text.specs.Text.{bits}
use Rattle.text.specs.Put.{Written}
use Rattle.text.proofs.Page.bits.Given as goal

abbrev pub invariant-loop-c : goal.invariant-loop-c
invariant-loop-c l = Written (bits l.c (value l.row)) l.fn.self l.self
