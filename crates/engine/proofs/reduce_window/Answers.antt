-- The search foresees the matrix that clearing gives; the table clears each row by its number.
use mathlib.Core.Path.{refl, ◌∙◌}
use native.Mathlib.Omega.{arith}
use lib.ListN.{length}
use Rattle.words.proofs.Rows.{length_rows}
use Rattle.engine.specs.Stage.{Sizes}
use Rattle.engine.proofs.Windows.{window_pivots, cleared_all, windowed, windowed_none, no_additions, window_applies, table_rest}
use Rattle.engine.proofs.reduce_window.Goals as goal

pub returns-then-r-eq0 : goal.returns-then-r-eq0
returns-then-r-eq0 c =
    let g = c.args.window in
    let h = c.search-r.ensures in
    let none = windowed_none h.0 (length_rows g.w g.n c.search-r.new.m) c.if-r-eq0.true h.1.space h.1.old in
    (none, h.1.past, refl, no_additions)

pub numbers-requires : goal.numbers-requires
numbers-requires c =
    let S = c.search-r.ensures.0 in
    (omega (arith, c.requires.0, c.search-r.auto.m), S.few, S.room, S.size_h, S.whole, window_pivots S, S.has)

pub apply-additions-requires : goal.apply-additions-requires
apply-additions-requires c =
    let g = c.args.window in
    let sizes : Sizes g.w g.n (length c.search-r.new.m) = record { fits = omega (arith, c.requires.0, c.search-r.auto.m); narrow = g.narrow; few = g.few } in
    (omega (arith, g.some, g.inside), window_applies sizes g.inside g.most c.requires.1 c.search-r.ensures.0 c.numbers.auto.h c.numbers.ensures.small)

pub returns : goal.returns
returns c =
    let g = c.args.window in
    let h = c.search-r.ensures in
    let r = c.apply-additions.ensures in
    let clear = cleared_all h.0 (length_rows g.w g.n c.search-r.new.m) c.numbers.ensures in
    let rest = table_rest c.search-r.result g.k g.w c.apply-additions.new.t c.args.t.now h.0.few r.rest in
    (windowed h.0 h.1.space (r.now.rows ∙ clear) h.1.old, r.now.past ∙ h.1.past, rest, r.count)
