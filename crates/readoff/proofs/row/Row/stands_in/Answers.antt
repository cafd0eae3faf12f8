-- The first one is the pivot.
use borrow.Author.Rules.{rules}
use Rattle.readoff.proofs.Lead.{stands}
use Rattle.readoff.proofs.row.Row.stands_in.Goals as goal

pub returns : goal.returns
returns c = let g = c.args in stands g.self.now g.a g.e c.is_some_and.result c.next_one.result c.next_one.ensures (search rules)
