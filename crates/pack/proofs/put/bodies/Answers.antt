-- A turn puts the body of the next entry: what is then to be put stays the same.
use mathlib.Core.Path.{ap}
use mathlib.Core.List.{List}
use Prim.Native.Nat.{ℕ}
use native.Mathlib.Omega.{arith}
use lib.ListN.{length}
use Rattle.pack.proofs.Turns.{turn_of, end_of, met_words, going_on, bodies_turn, bodies_end}
use borrow.Author.Rules.{rules}
use Rattle.pack.proofs.put.bodies.Goals as goal

pub split_at-requires : goal.split_at-requires
split_at-requires c =
    let t = turn_of c.loop-kind.kind-iterator c.next.new.self c.next.result _ c.in-Some.is c.next.ensures.steps in
    omega (arith, met_words t _ c.loop-kind.invariant.going, c.body_words.ensures.0)

pub loop-kind-preserved : goal.loop-kind-preserved
loop-kind-preserved c =
    let v = c.loop-kind.invariant in
    let t = turn_of c.loop-kind.kind-iterator c.next.new.self c.next.result _ c.in-Some.is c.next.ensures.steps in
    rw (c.split_at.ensures.front, c.split_at.ensures.back)
    (record {
      to_put = bodies_turn t _ v.going c.body_words.ensures.0 c.loop-kind.out c.loop-kind.at v.to_put (omega arith) (rw c.split_at.ensures.front at c.body.ensures);
      going = going_on t _ v.going c.body_words.ensures.0;
      whole = search rules;
      room = omega (arith, ap (λ (l : List ℕ). length l) c.split_at.ensures.front, ap (λ (l : List ℕ). length l) c.split_at.ensures.back);
    })

pub returns : goal.returns
returns c =
    bodies_end _ _ _ c.loop-kind.left.now (end_of c.loop-kind.kind-iterator c.next.new.self c.next.result c.in-None.is c.next.ensures.steps)
    c.loop-kind.out _ c.loop-kind.invariant.to_put
