-- Rows times words, both at most what 16 bits give.
use Rattle.bundle.proofs.Bodies.{body_same}
use Rattle.pack.proofs.Turns.{body_small}
use borrow.Author.Rules.{rules}
use Rattle.pack.proofs.entries.body_words.Goals as goal

pub returns : goal.returns
returns c = search (rules, body_same, body_small)
