-- A turn puts the ten bytes of the next entry: what is then to be put stays the same.
use mathlib.Core.Path.{ap}
use mathlib.Core.List.{List}
use Prim.Native.Nat.{ℕ}
use native.Mathlib.Omega.{arith}
use lib.ListN.{length}
use Rattle.pack.proofs.Turns.{turn_of, end_of, sum_step, contents_turn, contents_end}
use borrow.Author.Rules.{rules}
use Rattle.pack.proofs.put.contents.Goals as goal

pub loop-kind-preserved : goal.loop-kind-preserved
loop-kind-preserved c =
    let v = c.loop-kind.invariant in
    let t = turn_of c.loop-kind.kind-iterator c.next.new.self c.next.result _ c.in-Some.is c.next.ensures.steps in
    record {
      to_put = contents_turn t _ c.loop-kind.out c.loop-kind.at c.loop-kind.offset v.to_put (omega arith) c.body_words.ensures.0 c.head.ensures;
      whole = search rules;
      heads = omega (arith, ap (λ (l : List ℕ). length l) t.0.0);
      bodies = omega (arith, sum_step t, c.body_words.ensures.0);
    }

pub returns : goal.returns
returns c =
    contents_end _ _ _ c.args.entries.now.words.now (end_of c.loop-kind.kind-iterator c.next.new.self c.next.result c.in-None.is c.next.ensures.steps)
    c.loop-kind.out _ _ c.loop-kind.invariant.to_put
