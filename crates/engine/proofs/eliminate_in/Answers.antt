-- The shapes fit, so the room's two parts hold the matrix and the table; joined again they are what the promise says.
use mathlib.Core.Path.{refl}
use borrow.Author.Rules.{rules}
use Rattle.engine.proofs.Fitting.{parts_fit, one_done}
use Rattle.engine.proofs.eliminate_in.Goals as goal

pub reduce-requires : goal.reduce-requires
reduce-requires c =
    let s = c.split_at_mut-matrix.ensures in
    parts_fit (search rules) c.per_row.ensures s.front s.back

pub returns : goal.returns
returns c =
    let s = c.split_at_mut-matrix.ensures in
    one_done (search rules) c.per_row.ensures s.front s.back c.args.pivots.now refl c.reduce.auto.m c.reduce.ensures
