-- next_word passes a word without a one, one_here finds it, none_left ends.
use native.Mathlib.Omega.{arith}
use Rattle.readoff.proofs.Columns.{next_word, one_here, none_left}
use Rattle.readoff.proofs.row.Row.next_one.Goals as goal

pub loop-l-preserved : goal.loop-l-preserved
loop-l-preserved c =
    let l = c.loop-l in
    let q = l.invariant in
    (omega arith, omega arith, next_word c.self.inside.words.now c.args.c l.q l.l c.self.invariant.1 q.0 q.1 q.2 c.if-x-ne0.false)

pub returns-then-x-ne0 : goal.returns-then-x-ne0
returns-then-x-ne0 c =
    let l = c.loop-l in
    let q = l.invariant in
    rw (← c.self.view_is) (one_here c.self.inside.words.now c.args.c l.q l.l c.self.invariant.1 q.0 q.1 q.2 c.if-x-ne0.true)

pub returns : goal.returns
returns c =
    let l = c.loop-l in
    let q = l.invariant in
    rw (← c.self.view_is) (none_left c.self.inside.words.now c.args.c l.q l.l c.self.invariant.1 q.0 q.1 q.2 c.loop-l-test.false)
