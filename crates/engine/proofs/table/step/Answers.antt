-- The row that joins is the one that the step number names, and the sum is stored at its code.
use mathlib.Core.List.{List}
use mathlib.Core.Path.{ap, ap₂, ◌∙◌}
use Prim.Native.Nat.{ℕ, ◌+◌, ◌*◌}
use native.Mathlib.Omega.{arith}
use lib.Seq.{paste, take_all}
use Rattle.gf2.specs.Rows.{part}
use Rattle.words.specs.Words.{xors}
use Rattle.engine.proofs.Sums.{row_added}
use Rattle.engine.proofs.table.step.Goals as goal

pub returns : goal.returns
returns g c =
    let a = c.args in
    let v : ℕ = g.row.V in
    let x' : List ℕ = c.add_words.new.d in (
      c.add_words.ensures ∙ row_added v a.x.now _ c.told-x ∙ ap (λ (z : ℕ). xors a.x.now (part (a.a + z * a.w) v a.m.now)) c.joins.ensures,
      c.copy_words.ensures ∙ ap₂ (λ (z : ℕ) (y : List ℕ). paste a.t.now (z * v) y v) c.code.ensures (take_all v x' (omega arith)),
    )
