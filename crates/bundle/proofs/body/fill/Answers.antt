-- The words passed are those of the body, the others as they were.
use Rattle.bundle.proofs.Bodies.{fill_turn, fill_done}
use borrow.Author.Rules.{rules}
use Rattle.bundle.proofs.body.fill.Goals as goal

pub loop-j-preserved : goal.loop-j-preserved
loop-j-preserved c = search (rules, fill_turn)

pub returns : goal.returns
returns c = search (rules, fill_done)
