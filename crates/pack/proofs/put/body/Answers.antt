-- A turn puts the next word: what is then to be put stays the same.
use Rattle.pack.proofs.Splices.{words_turn, words_end}
use borrow.Author.Rules.{rules}
use Rattle.pack.proofs.put.body.Goals as goal

pub loop-j-preserved : goal.loop-j-preserved
loop-j-preserved c = record {
  to_put = words_turn c.loop-j.out c.args.words.now c.args.at c.args.kind c.loop-j.j c.loop-j.invariant.to_put c.loop-j-test.true (search rules) (cc c.ordered.ensures) c.number.ensures;
  whole = search rules;
}

pub returns : goal.returns
returns c = search (rules, words_end)
