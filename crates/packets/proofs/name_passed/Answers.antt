-- The packets are reduced beside an identity, and the named ones are read off, or there are none.
use Rattle.std.proofs.Common.{rules, true, false}
use Rattle.packets.proofs.Naming.{judged, cleared}
use Rattle.packets.proofs.name_passed.Goals as goal

pub returns-then-any : goal.returns-then-any
returns-then-any c =
    let g = c.args in
    let room₁ = c.reduce.new.room in
    let lent = cleared g.rows g.columns g.n g.k g.m.now g.named.now g.room.now room₁ c.requires c.reduce.result c.reduce.ensures (search rules) in (
      judged g.rows g.columns g.n g.k g.m.now g.named.now g.room.now room₁ c.requires c.reduce.result c.reduce.ensures (search rules) c.named.new.names true (search rules),
      lent c.zero_front.new.d c.per_row.result c.per_row.ensures c.zero_front.ensures,
    )

pub returns-else-any : goal.returns-else-any
returns-else-any c =
    let g = c.args in
    let room₁ = c.reduce.new.room in
    let lent = cleared g.rows g.columns g.n g.k g.m.now g.named.now g.room.now room₁ c.requires c.reduce.result c.reduce.ensures (search rules) in (
      judged g.rows g.columns g.n g.k g.m.now g.named.now g.room.now room₁ c.requires c.reduce.result c.reduce.ensures (search rules) c.named.new.names false (search rules),
      lent c.zero_front.new.d c.per_row.result c.per_row.ensures c.zero_front.ensures,
    )
