-- The number of the eight bytes, looked at past the first s columns of its kind.
use mathlib.Core.Path.{ap, ◌∙◌}
use mathlib.Core.Bool.{not}
use Prim.Native.Nat.{ℕ, ◌/◌, ◌^◌}
use lib.Dec.{eqb}
use Rattle.wire.specs.Kinds.{order}
use Rattle.bundle.proofs.body.is_past.Goals as goal

pub returns : goal.returns
returns c =
    let g = c.args in
    c.past.ensures ∙ ap (λ (x : ℕ). not (eqb (order g.kind x / 2 ^ g.s) 0)) c.number.ensures
