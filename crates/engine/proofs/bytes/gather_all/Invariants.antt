-- The bytes passed are gathered; the others are as they were.
use mathlib.Core.Path.{◌≡◌}
use Prim.Native.Nat.{ℕ, ◌<◌, ◌≤◌}
use lib.ListN.{length, get_or}
use Rattle.engine.specs.Stage.{Gathered}
use Rattle.engine.proofs.bytes.gather_all.Given as goal

abbrev pub invariant-loop-x : goal.invariant-loop-x
invariant-loop-x l = ((i : ℕ) → i < l.x-index → Gathered l.c (length l.pivots) l.pivots (get_or l.initial.o i 0) (get_or l.o i 0)) × ((i : ℕ) → l.x-index ≤ i → get_or l.o i 0 ≡ get_or l.initial.o i 0)
