-- A pivot's bit is the digit above those of the pivots before: gather_more.
use Prim.Native.Nat.{◌-◌}
use native.Mathlib.Omega.{arith}
use Rattle.engine.proofs.ByteLaws.{gather_more}
use Rattle.engine.proofs.bytes.gather.Goals as goal

pub loop-b-preserved : goal.loop-b-preserved
loop-b-preserved c =
    gather_more _ _ _ _ _ (c.from.result - c.args.c) (omega (arith, c.requires.few)) (omega (arith, c.from.ensures, c.requires.low c.loop-b.b c.loop-b-test.true)) c.loop-b.invariant
