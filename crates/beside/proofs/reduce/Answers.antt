-- The shapes fit, so that the core's do: its rows are those of the matrix beside the identity. What lies past the table was not touched.
use mathlib.Core.Path.{refl, sym, ◌∙◌}
use native.Mathlib.Nat.{le_refl}
use native.Mathlib.Omega.{arith}
use borrow.Author.Rules.{rules}
use lib.ListN.{length, replicate}
use Rattle.std.proofs.lemmas.Result.{err_from_is_err_and}
use Rattle.refusals.proofs.Chain.{refused_not}
use Rattle.beside.proofs.Fitting.{checks_passed, passes_checks, adjoin_fits, core_beside}
use Rattle.beside.proofs.reduce.Goals as goal

pub returns-in_err-check : goal.returns-in_err-check
returns-in_err-check c =
    let g = c.args in
    let p = err_from_is_err_and c.from_residual.result c.from_residual.ensures.1 in
    rw p.1 ((λ f. refused_not (sym c.in_err-check.was ∙ c.check.ensures ∙ passes_checks g.rows g.columns g.k g.m.now (length g.room.now) f)), refl)

pub adjoin-requires : goal.adjoin-requires
adjoin-requires c =
    let g = c.args in
    let f = checks_passed g.rows g.columns g.k g.m.now (length g.room.now) (sym c.check.ensures ∙ c.in_ok-check.was) in
    adjoin_fits g.rows g.columns g.k g.m.now g.room.now f

pub overflow_add-columns : goal.overflow_add-columns
overflow_add-columns c =
    let g = c.args in
    let f = checks_passed g.rows g.columns g.k g.m.now (length g.room.now) (sym c.check.ensures ∙ c.in_ok-check.was) in
    omega (arith, f.wide)

pub returns : goal.returns
returns c =
    let e = c.eliminate_in in
    let g = c.args in
    let f = checks_passed g.rows g.columns g.k g.m.now (length g.room.now) (sym c.check.ensures ∙ c.in_ok-check.was) in
    (core_beside g.rows g.columns g.k g.m.now g.room.now f c.adjoin.new.room (search rules) c.adjoin.ensures.0 c.adjoin.ensures.1
    (replicate 512 65535) (le_refl 512) e.result e.new.pivots e.new.m e.ensures).1

pub unwrap-requires : goal.unwrap-requires
unwrap-requires c =
    let e = c.eliminate_in in
    let g = c.args in
    let f = checks_passed g.rows g.columns g.k g.m.now (length g.room.now) (sym c.check.ensures ∙ c.in_ok-check.was) in
    (core_beside g.rows g.columns g.k g.m.now g.room.now f c.adjoin.new.room (search rules) c.adjoin.ensures.0 c.adjoin.ensures.1
    (replicate 512 65535) (le_refl 512) e.result e.new.pivots e.new.m e.ensures).0
