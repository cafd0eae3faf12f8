use Rattle.std.proofs.Common.{◌≤◌}
use Rattle.trial.proofs.plain.reduce.Given as goal

abbrev pub invariant-loop-c : goal.invariant-loop-c
invariant-loop-c g l = l.rank ≤ l.c
