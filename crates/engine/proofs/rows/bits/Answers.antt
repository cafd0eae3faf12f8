-- The window lies in one word or in two: window_one, window_two.
use mathlib.Core.Path.{ap, ◌∙◌}
use Prim.Native.Nat.{ℕ, ◌+◌, ◌-◌, ◌*◌, ◌/◌, ◌%◌, ◌^◌}
use lib.ListN.{get_or}
use lib.Bits.{bit_and, bit_or}
use Rattle.words.proofs.Value.{fits_fit}
use Rattle.words.proofs.Window.{window_one, window_two}
use native.Mathlib.Omega.{arith}
use Rattle.engine.proofs.rows.bits.Goals as goal

pub returns-then-s-k-le64 : goal.returns-then-s-k-le64
returns-then-s-k-le64 c =
    let g = c.args in
    let m = g.m.now in
    ap (bit_and (get_or m (g.i * g.w + g.c / 64) 0 / 2 ^ (g.c % 64))) c.mask.ensures
    ∙ window_one m (g.i * g.w) g.w g.c g.k (fits_fit m c.type_inv.m) c.requires.0 c.if-s-k-le64.true

pub returns-else-s-k-le64 : goal.returns-else-s-k-le64
returns-else-s-k-le64 c =
    let g = c.args in
    let m = g.m.now in
    let at : ℕ = g.i * g.w + g.c / 64 in
    ap (bit_and (bit_or (get_or m at 0 / 2 ^ (g.c % 64)) (get_or m (at + 1) 0 * 2 ^ (64 - g.c % 64) % 18446744073709551616))) c.mask-else-s-k-le64.ensures
    ∙ window_two m (g.i * g.w) g.w g.c g.k (fits_fit m c.type_inv.m) c.requires.0 (omega arith) (omega (arith, c.if-s-k-le64.false))
