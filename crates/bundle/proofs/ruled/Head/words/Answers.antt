-- At most 16 words a row, 512 rows.
use Rattle.bundle.proofs.Bodies.{small, body_same}
use native.Mathlib.Omega.{arith}
use borrow.Author.Rules.{rules}
use Rattle.bundle.proofs.ruled.Head.words.Goals as goal

pub overflow_mul-result : goal.overflow_mul-result
overflow_mul-result c = omega (arith, small c.args.self.rows c.per_row.result (search rules) (search rules))

pub returns : goal.returns
returns c = (body_same c.args.self.rows c.args.self.columns c.per_row.ensures, small c.args.self.rows c.per_row.result (search rules) (search rules))
