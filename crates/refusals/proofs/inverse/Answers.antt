-- Where the sizes have passed, rows and columns can be added up.
use native.Mathlib.Omega.{arith}
use Rattle.refusals.proofs.Passed.{sizes_small}
use Rattle.refusals.proofs.inverse.Goals as goal

pub overflow_add-rows : goal.overflow_add-rows
overflow_add-rows c = omega (arith, sizes_small c.args.rows c.args.columns c.sizes.result c.sizes.ensures c.in_ok-sizes.was)
