-- Whether all entries are narrow is whether those that are left are, as long as each one met is.
use mathlib.Core.Path.{sym, ◌∙◌}
use native.Mathlib.Omega.{arith}
use Rattle.pack.proofs.Turns.{turn_of, end_of, met_words, going_on, narrow_turn, narrow_stop, narrow_end}
use Rattle.pack.proofs.entries.Entries.are_narrow.Goals as goal

pub split_at-requires : goal.split_at-requires
split_at-requires c =
    let t = turn_of c.loop-rows.rows-iterator c.next.new.self c.next.result _ c.in-Some.is c.next.ensures.steps in
    omega (arith, met_words t _ c.loop-rows.invariant.going, c.body_words.ensures.0)

pub returns-then-not-hold_rows : goal.returns-then-not-hold_rows
returns-then-not-hold_rows c =
    let t = turn_of c.loop-rows.rows-iterator c.next.new.self c.next.result _ c.in-Some.is c.next.ensures.steps in
    narrow_stop t _ c.loop-rows.invariant.going c.body_words.ensures.0 c.loop-rows.invariant.narrow (cc (c.hold_rows.ensures, c.split_at.ensures.front)) c.if-not-hold_rows.true

pub loop-rows-preserved : goal.loop-rows-preserved
loop-rows-preserved c =
    let t = turn_of c.loop-rows.rows-iterator c.next.new.self c.next.result _ c.in-Some.is c.next.ensures.steps in
    rw c.split_at.ensures.back
    (record {
      narrow = narrow_turn t _ c.loop-rows.invariant.going c.body_words.ensures.0 c.loop-rows.invariant.narrow (cc (c.hold_rows.ensures, c.split_at.ensures.front)) c.if-not-hold_rows.false;
      going = going_on t _ c.loop-rows.invariant.going c.body_words.ensures.0;
    })

pub returns : goal.returns
returns c = sym (c.loop-rows.invariant.narrow ∙ narrow_end _ _ _ _ (end_of c.loop-rows.rows-iterator c.next.new.self c.next.result c.in-None.is c.next.ensures.steps))
