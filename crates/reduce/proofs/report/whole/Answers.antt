-- The page is on the buffer lent, which is long enough.
use Rattle.std.proofs.Common.{rules}
use Rattle.reduce.proofs.Short.{whole_report}
use Rattle.reduce.proofs.report.whole.Goals as goal

pub returns : goal.returns
returns c =
    let g = c.args in
    let all = whole_report g.bytes.now g.out.now c.told.new.page.buffer.now c.told.new.page.end c.requires.2 c.told.ensures.put in
    search (rules, all)
