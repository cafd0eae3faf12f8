-- The bytes passed have no one in column x.
use mathlib.Core.Path.{◌≡◌}
use Prim.Native.Nat.{ℕ, ◌<◌, ◌≤◌}
use lib.ListN.{get_or}
use Rattle.gf2.specs.Rows.{bit}
use Rattle.engine.proofs.bytes.find.Given as goal

abbrev pub invariant-loop-i : goal.invariant-loop-i
invariant-loop-i l = (j : ℕ) → l.from ≤ j → j < l.i → bit l.x (get_or l.o j 0) ≡ 0
