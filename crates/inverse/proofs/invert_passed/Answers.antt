-- The matrix is reduced beside an identity, and its right half is read off, or there is none.
use Rattle.std.proofs.Common.{rules, true, false}
use Rattle.inverse.proofs.Calls.{inverted, cleared}
use Rattle.inverse.proofs.invert_passed.Goals as goal

pub returns-then-exists : goal.returns-then-exists
returns-then-exists c =
    let g = c.args in
    let room₁ = c.reduce.new.room in
    let lent = cleared g.n g.k g.m.now g.res.now g.room.now room₁ c.requires c.reduce.result c.reduce.ensures (search rules) in (
      inverted g.n g.k g.m.now g.res.now g.room.now room₁ c.requires c.reduce.result c.reduce.ensures (search rules) c.right_half.new.res true (search rules),
      lent c.zero_front.new.d c.per_row.result c.per_row.ensures c.zero_front.ensures,
    )

pub returns-else-exists : goal.returns-else-exists
returns-else-exists c =
    let g = c.args in
    let room₁ = c.reduce.new.room in
    let lent = cleared g.n g.k g.m.now g.res.now g.room.now room₁ c.requires c.reduce.result c.reduce.ensures (search rules) in (
      inverted g.n g.k g.m.now g.res.now g.room.now room₁ c.requires c.reduce.result c.reduce.ensures (search rules) c.right_half.new.res false (search rules),
      lent c.zero_front.new.d c.per_row.result c.per_row.ensures c.zero_front.ensures,
    )
