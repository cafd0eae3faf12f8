-- The answer is that of the entries left.
use Rattle.bundle.proofs.Steps.{entries_refused, entries_turn, entries_left, entries_none}
use native.Mathlib.Omega.{arith}
use borrow.Author.Rules.{rules}
use Rattle.bundle.proofs.ruled.check_entries.Goals as goal

pub returns-in_err-at : goal.returns-in_err-at
returns-in_err-at c =
    let e = entries_refused _ _ _ _ _ c.loop-i.invariant.left c.loop-i-test.true c.check_entry.ensures c.in_err-at.was in
    grind arith

pub loop-i-preserved : goal.loop-i-preserved
loop-i-preserved c = let t = entries_turn _ _ _ _ _ c.loop-i.invariant.left c.loop-i-test.true c.check_entry.ensures c.in_ok-at.was in record { left = t.0; inside = t.1 }

pub returns-then-at-b : goal.returns-then-at-b
returns-then-at-b c = search (rules, entries_left)

pub returns : goal.returns
returns c = search (rules, entries_none)
