-- Refused by the checks, or the count.
use Rattle.bundle.proofs.Meaning.{counted_entries}
use borrow.Author.Rules.{rules}
use Rattle.bundle.proofs.ruled.read.Goals as goal

pub returns : goal.returns
returns c = search (rules, counted_entries)
