-- Row after row.
use Rattle.beside.proofs.Rows.{Adjoined}
use Rattle.beside.proofs.adjoin.Given as goal

abbrev pub invariant-loop-i : goal.invariant-loop-i
invariant-loop-i l = Adjoined l.v l.w l.rows l.columns l.i l.m l.initial.room l.room
