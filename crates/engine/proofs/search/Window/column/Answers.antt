-- A column with no one left is passed; else the first row with a one is taken.
use native.Mathlib.Omega.{arith}
use Rattle.engine.proofs.Steps.{search_pass, kept_all}
use Rattle.engine.proofs.search.Window.column.Goals as goal

pub returns-then-seen-x-eq0 : goal.returns-then-seen-x-eq0
returns-then-seen-x-eq0 c =
    let p = c.requires in
    (search_pass _ _ _ _ _ _ _ _ _ _ p.2 p.1 (λ i a l. p.3 i c.args.x a l c.if-seen-x-eq0.true), p.3, kept_all _ _ _ _ _)

pub returns-in-None : goal.returns-in-None
returns-in-None c =
    let p = c.requires in
    (search_pass _ _ _ _ _ _ _ _ _ _ p.2 p.1 (λ i a l. c.in-None.ensures i a (omega (arith, p.2.size_o))), p.3, kept_all _ _ _ _ _)
