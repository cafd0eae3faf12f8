-- Where the sizes have passed, columns and rows can be added up.
use native.Mathlib.Omega.{arith}
use Rattle.refusals.proofs.Passed.{sizes_small}
use Rattle.refusals.proofs.contradiction.Goals as goal

pub overflow_add-columns : goal.overflow_add-columns
overflow_add-columns c = omega (arith, sizes_small c.args.rows c.args.columns c.sizes.result c.sizes.ensures c.in_ok-sizes.was)
