-- The lowest bytes of the number, put in place.
use Rattle.pack.proofs.Splices.{number_put}
use borrow.Author.Rules.{rules}
use Rattle.pack.proofs.put.number.Goals as goal

pub returns : goal.returns
returns c = search (rules, number_put)
