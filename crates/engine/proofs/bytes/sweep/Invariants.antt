-- The bytes passed are cleared in column x, and their union is known; the others are as they were.
use mathlib.Core.Path.{◌≡◌}
use Prim.Native.Nat.{ℕ, ◌<◌, ◌≤◌}
use lib.ListN.{get_or}
use Rattle.gf2.specs.Rows.{bit, ◌⊕◌, pick}
use Rattle.engine.specs.Stage.{Union}
use Rattle.engine.proofs.bytes.sweep.Given as goal

abbrev pub invariant-loop-v : goal.invariant-loop-v
invariant-loop-v l = ((i : ℕ) → i < l.v-index → get_or l.o i 0 ≡ get_or l.initial.o i 0 ⊕ pick (bit l.x (get_or l.initial.o i 0)) l.b) × ((i : ℕ) → l.v-index ≤ i → get_or l.o i 0 ≡ get_or l.initial.o i 0) × Union l.v-index 0 l.o l.union
