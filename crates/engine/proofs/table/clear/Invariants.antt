-- The loop's invariant: the rows passed have had the table rows added that their numbers name.
use Rattle.engine.proofs.Clears.{Clears}
use Rattle.engine.specs.Stage.{table_row}
use Prim.Native.Nat.{◌-◌}
use Rattle.engine.proofs.table.clear.Given as goal

abbrev pub invariant-loop-i : goal.invariant-loop-i
invariant-loop-i g l = Clears l.w (l.w - g.row.V) l.n l.i l.o (table_row g.row.V l.t) l.initial.m l.m
