-- Before a turn no one stands between column c and column q, the next to be looked at, in word l.
use mathlib.Core.Path.{◌≡◌}
use Prim.Native.Nat.{◌/◌, ◌≤◌}
use Rattle.words.specs.Words.{value}
use Rattle.readoff.proofs.Columns.{ZeroTo}
use Rattle.readoff.proofs.row.Row.next_one.Given as goal

abbrev pub invariant-loop-l : goal.invariant-loop-l
invariant-loop-l l = (l.c ≤ l.q) × (l.q / 64 ≡ l.l) × ZeroTo l.c (value l.words) l.q
