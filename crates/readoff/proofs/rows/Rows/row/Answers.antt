-- The words of row i are that part of the buffer.
use mathlib.Core.Path.{◌≡◌, ap, ◌∙◌}
use Prim.Native.Nat.{ℕ, ◌+◌, ◌-◌, ◌*◌}
use native.Mathlib.Omega.{arith}
use lib.ListN.{take, drop, length-take}
use Rattle.words.specs.Words.{value}
use Rattle.words.proofs.Value.{fit_take, fit_drop}
use Rattle.readoff.proofs.Held.{held_row}
use Rattle.readoff.proofs.rows.Rows.row.Goals as goal

pub invariant_of-result : goal.invariant_of-result
invariant_of-result c =
    let s = c.self.inside in
    let n = c.args.i * s.width + s.width - c.args.i * s.width in
    let row = drop (c.args.i * s.width) s.words.now in
    (omega (arith, length-take n row), fit_take n row (fit_drop (c.args.i * s.width) s.words.now c.self.invariant.2))

pub returns : goal.returns
returns c =
    let s = c.self.inside in
    let g = c.args in
    let m = s.words.now in
    let e : g.i * s.width + s.width - g.i * s.width ≡ s.width = omega arith in
    ap (λ (k : ℕ). value (take k (drop (g.i * s.width) m))) e ∙ held_row s.width s.count g.i m g.self.now c.self.view_is c.requires
