-- The answer is that of the entries left.
use mathlib.Core.Path.{◌≡◌}
use Prim.Native.Nat.{◌-◌, ◌≤◌}
use lib.ListN.{length}
use Rattle.bundle.specs.Bundle.{head_bytes, kind_rule, entries_checks}
use Rattle.bundle.proofs.ruled.check_entries.Given as goal

abbrev pub invariant-loop-i : goal.invariant-loop-i
invariant-loop-i l = record {
  left : entries_checks (kind_rule l.two) l.n 0 (head_bytes l.n) l.b ≡ entries_checks (kind_rule l.two) (l.n - l.i) l.i l.at l.b;
  inside : l.at ≤ length l.b;
}
