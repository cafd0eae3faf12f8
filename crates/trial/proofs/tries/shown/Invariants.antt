use Rattle.std.proofs.Common.{◌≤◌}
use Rattle.trial.proofs.tries.shown.Given as goal

abbrev pub invariant-loop-j : goal.invariant-loop-j
invariant-loop-j l = l.i ≤ l.j
