-- A one past the last column stands in the last word of its row: the loop has looked at that word of each row passed.
use mathlib.Core.Path.{refl, sym, ◌∙◌}
use Prim.Native.Nat.{ℕ, ◌^◌, ◌<◌}
use borrow.Author.Count.{below_more}
use Rattle.gf2.specs.Rows.{row}
use Rattle.bundle.specs.Bundle.{matrix_at}
use Rattle.bundle.proofs.Bodies.{past_some, past_no, last_inside, last_word, last_full, all_clean, not_clean}
use borrow.Author.Rules.{rules}
use Rattle.bundle.proofs.body.is_clean.Goals as goal

pub returns-then-s-eq0 : goal.returns-then-s-eq0
returns-then-s-eq0 c =
    let g = c.args in
    all_clean g.kind g.at g.rows g.columns g.b.now
    (last_full g.kind g.at g.rows g.columns g.b.now (λ j. (c.type_inv.b j).fits) (sym c.odd_bits-s.ensures ∙ c.if-s-eq0.true))

pub is_past-requires : goal.is_past-requires
is_past-requires c = search (rules, last_inside)

pub returns-then-is_past : goal.returns-then-is_past
returns-then-is_past c =
    let g = c.args in
    let i = c.loop-i.i in
    let last = last_word g.kind g.at g.rows g.columns g.b.now (λ j. (c.type_inv.b j).fits) i _ _ _ c.loop-i-test.true c.per_row-w.ensures c.odd_bits-s.ensures c.if-s-eq0.false refl in
    not_clean g.kind g.at g.rows g.columns g.b.now i c.loop-i-test.true
    (λ n. past_some _ _ c.is_past.ensures c.if-is_past.true (last.0 n))

pub loop-i-preserved : goal.loop-i-preserved
loop-i-preserved c =
    let g = c.args in
    let i = c.loop-i.i in
    let last = last_word g.kind g.at g.rows g.columns g.b.now (λ j. (c.type_inv.b j).fits) i _ _ _ c.loop-i-test.true c.per_row-w.ensures c.odd_bits-s.ensures c.if-s-eq0.false refl in
    below_more (λ (k : ℕ). row (matrix_at g.kind g.at g.rows g.columns g.b.now) k < 2 ^ g.columns) i c.loop-i.invariant
    (last.1 (past_no _ _ c.is_past.ensures c.if-is_past.false))

pub returns : goal.returns
returns c = search (rules, all_clean)
