-- The row becomes what clearing will give, goes to place base + s, and the earlier pivot rows are cleared by it: each step on the rows is a step on the bytes.
use mathlib.Core.Path.{◌≡◌, ◌∙◌}
use mathlib.Core.List.{List}
use Prim.Native.Nat.{ℕ, ◌+◌}
use native.Mathlib.Omega.{arith}
use lib.Seq.{get_or-set_other}
use lib.ListN.{length, get_or, set, length-set}
use Rattle.words.specs.Words.{rows_of}
use Rattle.words.proofs.Rows.{length_rows}
use Rattle.engine.specs.Stage.{Kept}
use Rattle.engine.proofs.Steps.{own, search_taken}
use Rattle.engine.proofs.search.Window.take.Goals as goal

pub settle-requires : goal.settle-requires
settle-requires c =
    let w = c.args.self in
    let p = c.requires in
    (p.0, p.2, p.3, p.5.whole, own _ _ _ _ _ _ _ _ _ _ p.5 w.w w.inside (omega arith))

pub returns : goal.returns
returns c =
    let g = c.args in
    let w = g.self in
    let p = c.requires in
    let b = w.base + g.s in
    let o₂ : List ℕ = set (set g.o.now g.i (get_or g.o.now b 0)) b 0 in
    let l₂ : length o₂ ≡ w.n = simp length-set p.5.size_o in
    let l₃ : length c.sweep.new.o ≡ w.n = c.sweep.auto.o ∙ l₂ in
    let t = search_taken w.n w.c w.k g.x w.base g.s (rows_of w.w w.n g.m.now) g.h.now g.o.now g.cols.now p.5 g.i _ _ (rows_of w.w w.n c.lift.new.m) c.sweep.new.o
    (length_rows w.w w.n g.m.now) p.1 p.2 p.3 p.4 c.settle.ensures.0 c.exchange.ensures.rows c.lift.ensures.0 (λ i l. c.sweep.ensures.0 i (omega arith)) l₃ in
    let kept : Kept w.w w.n w.base g.m.now c.lift.new.m g.cols.now (set g.cols.now b (w.c + g.x)) = record {
      space = t.1;
      past = c.lift.ensures.1 ∙ c.exchange.ensures.past ∙ c.settle.ensures.1;
      old = λ i l. get_or-set_other g.cols.now b i (w.c + g.x) 0 (omega arith);
    } in
    (t.0, λ i y a l. c.sweep.ensures.1 i y a (omega arith), kept)
