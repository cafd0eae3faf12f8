-- The first one stands elsewhere; or it stands in column j, and the next one tells.
use borrow.Author.Rules.{rules}
use Rattle.readoff.proofs.Lead.{unit_first, unit_second}
use Rattle.readoff.proofs.row.Row.is_unit.Goals as goal

pub returns-else-is_some_and : goal.returns-else-is_some_and
returns-else-is_some_and c =
    let g = c.args in
    unit_first g.self.now g.n g.j (search rules) c.is_some_and.result c.next_one.result c.next_one.ensures (search rules) c.if-is_some_and.false

pub returns-then-is_some_and : goal.returns-then-is_some_and
returns-then-is_some_and c =
    let g = c.args in
    unit_second g.self.now g.n g.j (search rules) c.is_some_and.result c.next_one.result c.next_one.ensures (search rules) c.if-is_some_and.true
    c.has_one.result c.has_one.ensures
