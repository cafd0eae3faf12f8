-- The bytes, with zeros behind them, are those of the number.
use Rattle.bundle.proofs.Reading.{read_num}
use borrow.Author.Rules.{rules}
use Rattle.bundle.proofs.body.number.Goals as goal

pub returns : goal.returns
returns c = search (rules, read_num)
