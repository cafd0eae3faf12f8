-- The table is made from the last words of the pivot rows and clears the rows.
use Rattle.engine.proofs.Applying.{narrower, pivots_within, sums_clear}
use Rattle.engine.proofs.Windows.{drop_more}
use Rattle.words.proofs.Value.{fits_fit}
use Prim.Native.Nat.{ℕ, ◌*◌, ◌^◌}
use mathlib.Core.List.{List}
use mathlib.Core.Path.{◌∙◌}
use borrow.Author.Rules.{rules}
use native.Mathlib.Omega.{arith}
use Rattle.engine.proofs.table.apply_width.Goals as goal

pub make-additions-requires : goal.make-additions-requires
make-additions-requires g c =
    let s = c.args.s in
    let p = c.requires in
    let v = g.row.V in
    (p.most, omega (arith, p.inside, p.sizes.narrow), (λ b h. omega (arith, pivots_within s.w v s.n s.base s.r p.inside p.rows b h, p.sizes.fits)), omega (arith, p.table, narrower v s.w (2 ^ s.r) p.inside))

pub returns : goal.returns
returns g c =
    let s = c.args.s in
    let p = c.requires in
    let v = g.row.V in
    let k = c.make-additions in
    let d = c.clear in
    let m : List ℕ = c.args.m.now in
    let t' : List ℕ = k.new.t in
    record {
      now = record {
        rows = d.ensures.rows ∙ sums_clear s.w v s.n s.base s.r p.inside p.rows m c.args.o.now t' p.sizes.fits (fits_fit m (search rules)) p.low p.small k.ensures.1;
        past = d.ensures.past;
      };
      rest = drop_more (2 ^ s.r * v) (2 ^ s.r * s.w) t' c.args.t.now (narrower v s.w (2 ^ s.r) p.inside) k.ensures.2;
      count = k.ensures.0;
    }
