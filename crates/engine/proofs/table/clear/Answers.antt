-- A row has the table row added that its number names, and after the last all have.
use Rattle.engine.proofs.Clears.{Clears, clears_none, clears_one, clears_done}
use Rattle.engine.specs.Stage.{table_row}
use Rattle.words.proofs.Parts.{length_part}
use Rattle.words.proofs.Value.{fits_fit, part_fits}
use Rattle.gf2.specs.Rows.{part}
use Prim.Native.Nat.{ℕ, ◌+◌, ◌-◌, ◌*◌}
use lib.ListN.{length}
use mathlib.Core.List.{List}
use mathlib.Core.Path.{◌≡◌, sym, ap, ◌∙◌, subst}
use borrow.Author.Rules.{rules}
use native.Mathlib.Omega.{arith}
use Rattle.engine.proofs.table.clear.Goals as goal
use Rattle.engine.proofs.table.clear.Goals.{then-j-ne0, else-j-ne0}

pub loop-i-preserved : goal.loop-i-preserved
loop-i-preserved g c =
    let a = c.args in
    let l = c.loop-i in
    let h = c.loop-i-test.true in
    let v : ℕ = g.row.V in
    let z : ℕ = a.w - v in
    let T : ℕ → ℕ = table_row v a.t.now in
    let e = c.from-j.ensures in
    let y : List ℕ = part (c.from-j.result * v) v a.t.now in
    let ly : length y ≡ v = length_part (c.from-j.result * v) v a.t.now (rw e (c.requires.3 l.i h)) in
    elim c.if-j-ne0.branch [
      | then-j-ne0 x ↦
          clears_one a.w z a.n a.o.now T l.i v a.m.now l.m y c.if-j-ne0.m h (omega (arith, c.requires.1)) c.requires.0.fits ly
          (part_fits a.t.now (c.from-j.result * v) v (fits_fit a.t.now c.type_inv.t)) (λ q. x.if-j-ne0.true (e ∙ q)) (ap T e) (x.m-is ∙ x.clear_by.ensures)
          (fits_fit c.if-j-ne0.m (search rules)) l.invariant
      | else-j-ne0 x ↦
          subst (Clears a.w z a.n (l.i + 1) a.o.now T a.m.now) (sym x.m-is)
          (clears_none a.w z a.n a.o.now T l.i a.m.now l.m h (sym e ∙ x.if-j-ne0.false) l.invariant)
    ]

pub returns : goal.returns
returns g c =
    let a = c.args in
    let l = c.loop-i in
    let v : ℕ = g.row.V in
    clears_done a.w (a.w - v) a.n a.o.now (table_row v a.t.now) l.i a.m.now l.m (omega arith) l.invariant
