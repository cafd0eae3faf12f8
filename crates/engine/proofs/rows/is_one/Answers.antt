-- Column c of a row is bit c % 64 of its word c / 64: part_bit.
use Prim.Native.Nat.{◌*◌}
use borrow.Author.Rules.{rules}
use Rattle.words.proofs.Value.{fits_fit, part_bit}
use Rattle.engine.proofs.rows.is_one.Goals as goal

pub returns : goal.returns
returns c = rw (part_bit c.args.m.now (c.args.i * c.args.w) c.args.w c.args.c (fits_fit c.args.m.now c.type_inv.m) c.requires.0) (search rules)
