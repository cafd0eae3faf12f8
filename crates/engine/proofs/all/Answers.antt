-- Each turn does one window; after the last all columns are done.
use mathlib.Core.Path.{◌≡◌, refl, ◌∙◌}
use native.Mathlib.Omega.{arith}
use borrow.Author.Rules.{rules}
use Rattle.gf2.specs.Additions.{windows}
use Rattle.words.proofs.Rows.{length_rows}
use Rattle.engine.proofs.Fitting.{table_fits, rows_fit}
use Rattle.engine.proofs.Windows.{passed_start, passed_next, finished, table_room, steps_small, few_additions, starts_inside, table_rest}
use Rattle.engine.proofs.all.Goals as goal

pub loop-j-init : goal.loop-j-init
loop-j-init c = (passed_start c.requires.1.shape.listed c.requires.2, omega arith, refl, refl)

pub reduce_window-found-requires : goal.reduce_window-found-requires
reduce_window-found-requires c =
    let g = c.args in
    let e = c.requires.0 in
    let f = c.requires.1 in
    (omega (arith, rows_fit e f), omega (arith, table_fits e f, table_room c.width.result g.k g.w c.width.ensures.1), search rules, search rules, c.loop-j.invariant.0.stage)

pub overflow_add-additions : goal.overflow_add-additions
overflow_add-additions c =
    let f = c.requires.1 in
    let p = c.reduce_window-found.ensures in
    let least = f.table.window.least in
    let few = steps_small c.loop-j.j c.args.k c.args.columns least (starts_inside least c.window_count-j-end.ensures c.loop-j-test.true) in
    omega (arith, few_additions p.3 p.0.few c.width.ensures.1 f.table.window.most, few, f.shape.sized.wide)

pub loop-j-preserved : goal.loop-j-preserved
loop-j-preserved c =
    let l = c.loop-j in
    let g = c.args in
    let f = c.reduce_window-found in
    let h = c.width.ensures in
    let v = l.invariant in (
      passed_next h.1 h.3 (λ i. rw c.requires.0 (c.requires.1.shape.clean i)) v.0 f.ensures.0 f.ensures.3,
      omega (arith, v.1, few_additions f.ensures.3 f.ensures.0.few h.1 c.requires.1.table.window.most),
      f.ensures.1 ∙ v.2,
      table_rest c.width.result g.k g.w f.new.t l.t h.1 f.ensures.2 ∙ v.3,
    )

pub returns : goal.returns
returns c =
    let l = c.loop-j in
    let g = c.args in
    let size = length_rows g.w g.n in
    let e : l.j ≡ windows g.k g.columns = omega (arith, c.window_count-j-end.ensures) in
    (finished c.requires.1.table.window.least (size l.m) (size g.m.now) (λ i. rw c.requires.0 (c.requires.1.shape.clean i)) e l.invariant.0, l.invariant.2, l.invariant.3)
