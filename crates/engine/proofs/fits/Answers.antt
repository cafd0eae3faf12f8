-- A check refuses only where the shapes do not fit, and where none does they fit.
use Rattle.std.proofs.Common.{rules, sym, ◌∙◌}
use Rattle.std.proofs.lemmas.Result.{err_from_is_err_and}
use Rattle.refusals.proofs.Chain.{refused_not}
use Rattle.engine.proofs.Fitting.{right_columns, right_k, enough_room, clean_rows, right_shape}
use Rattle.engine.proofs.fits.Goals as goal

pub returns-in_err-bad_columns-clause-unfit : goal.returns-in_err-bad_columns-clause-unfit
returns-in_err-bad_columns-clause-unfit c =
    let g = c.args in
    let p = err_from_is_err_and c.from_residual.result c.from_residual.ensures.1 in
    rw p.1 (λ f. refused_not (sym c.in_err-bad_columns.was ∙ c.bad_columns.ensures ∙ right_columns g.rows g.columns g.k g.more g.room g.list g.m.now f))

pub returns-in_err-bad_k-clause-unfit : goal.returns-in_err-bad_k-clause-unfit
returns-in_err-bad_k-clause-unfit c =
    let g = c.args in
    let p = err_from_is_err_and c.from_residual-in_err-bad_k.result c.from_residual-in_err-bad_k.ensures.1 in
    rw p.1 (λ f. refused_not (sym c.in_err-bad_k.was ∙ c.bad_k.ensures ∙ right_k g.rows g.columns g.k g.more g.room g.list g.m.now f))

pub returns-in_err-short_room-clause-unfit : goal.returns-in_err-short_room-clause-unfit
returns-in_err-short_room-clause-unfit c =
    let g = c.args in
    let p = err_from_is_err_and c.from_residual-in_err-short_room.result c.from_residual-in_err-short_room.ensures.1 in
    rw p.1 (λ f. refused_not (sym c.in_err-short_room.was ∙ c.short_room.ensures ∙ enough_room g.rows g.columns g.k g.more g.room g.list g.m.now f))

pub returns-then-hold_rows-clause-fit : goal.returns-then-hold_rows-clause-fit
returns-then-hold_rows-clause-fit c =
    let g = c.args in
    right_shape g.rows g.columns g.k g.more g.room g.list g.m.now (search rules) (search rules) (search rules) (search rules) (search rules)

pub returns-else-hold_rows-clause-unfit : goal.returns-else-hold_rows-clause-unfit
returns-else-hold_rows-clause-unfit c = let g = c.args in λ f. let clean = clean_rows g.rows g.columns g.k g.more g.room g.list g.m.now f in search rules
