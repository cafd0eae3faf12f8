-- The next one stands before column e or not: one_before.
use borrow.Author.Rules.{rules}
use Rattle.readoff.proofs.Lead.{one_before}
use Rattle.readoff.proofs.row.Row.has_one.Goals as goal

pub returns : goal.returns
returns c = let g = c.args in one_before g.self.now g.a g.e c.is_some_and.result c.next_one.result c.next_one.ensures (search rules)
