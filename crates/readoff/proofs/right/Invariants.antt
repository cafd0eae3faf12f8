-- Each row that was written is the right half of its row.
use Prim.Native.Nat.{◌/◌, ◌^◌}
use lib.ListN.{length}
use Rattle.gf2.specs.Rows.{row}
use Rattle.readoff.proofs.Laid.{Laid}
use Rattle.readoff.proofs.right.Given as goal

abbrev pub invariant-loop-i : goal.invariant-loop-i
invariant-loop-i l = Laid l.v l.i (λ j. row l.m j / 2 ^ length l.m) l.res
