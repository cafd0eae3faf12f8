-- The loop's invariant: the local row has the sum of the last step's code, and every code of the steps passed has its sum.
use Rattle.engine.proofs.Sums.{Codes, Local}
use Rattle.engine.specs.Stage.{spaced}
use Rattle.words.specs.Words.{rows_of}
use Rattle.gf2.specs.Rows.{row}
use Prim.Native.Nat.{◌+◌, ◌*◌, ◌^◌}
use lib.ListN.{length, drop}
use mathlib.Core.Path.{◌≡◌}
use Rattle.engine.proofs.table.make.Given as goal

abbrev pub invariant-loop-l : goal.invariant-loop-l
invariant-loop-l g l = Codes l.l (spaced l.a l.w g.row.V l.r l.m) (row (rows_of g.row.V (2 ^ l.r) l.t)) × Local g.row.V l.l (spaced l.a l.w g.row.V l.r l.m) l.x × (drop (2 ^ l.r * g.row.V) l.t ≡ drop (2 ^ l.r * g.row.V) l.initial.t) × (length l.t ≡ length l.initial.t) × (l.additions + 1 ≡ l.l)
