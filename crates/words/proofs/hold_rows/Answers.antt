-- Rows of no words are zero; a buffer that is too short holds fewer rows; else it is the padding that decides.
use mathlib.Core.Path.{sym, ap, ◌∙◌}
use Prim.Native.Nat.{ℕ}
use lib.ListN.{length}
use Rattle.words.specs.Words.{rows_of, narrow}
use Rattle.words.proofs.Padding.{holds_none, holds_short, holds_fits, holds_narrow}
use borrow.Author.Rules.{rules}
use Rattle.words.proofs.hold_rows.Goals as goal

pub returns-then-w-eq0 : goal.returns-then-w-eq0
returns-then-w-eq0 c = let g = c.args in holds_none g.rows g.columns g.m.now (sym c.per_row-w.ensures ∙ c.if-w-eq0.true)

pub returns-then-m-w : goal.returns-then-m-w
returns-then-m-w c =
    let g = c.args in
    let w = c.per_row-w.ensures in
    holds_short g.rows g.columns g.m.now (λ z. c.if-w-eq0.false (w ∙ z)) (rw w at c.if-m-w.true)

pub is_clean-requires : goal.is_clean-requires
is_clean-requires c =
    let g = c.args in
    let w = c.per_row-w in
    (holds_fits g.rows w.result (length g.m.now) c.if-w-eq0.false c.if-m-w.false, w.ensures, search rules)

pub returns : goal.returns
returns c =
    let g = c.args in
    let w = c.per_row-w in
    let fits = holds_fits g.rows w.result (length g.m.now) c.if-w-eq0.false c.if-m-w.false in
    c.is_clean.ensures ∙ ap (λ (x : ℕ). narrow g.columns (rows_of x g.rows g.m.now)) w.ensures
    ∙ holds_narrow g.rows g.columns g.m.now (rw w.ensures at fits)
