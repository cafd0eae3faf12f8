-- Refused by the checks, or the entry is there, or it is not.
use Rattle.bundle.proofs.Meaning.{two_bytes_long, none_there, head_inside, is_found}
use borrow.Author.Rules.{rules}
use Rattle.bundle.proofs.ruled.find.Goals as goal

pub count-requires : goal.count-requires
count-requires c = search (rules, two_bytes_long)

pub returns-in_err-not_below-clause-missing : goal.returns-in_err-not_below-clause-missing
returns-in_err-not_below-clause-missing c = λ r e.
    let z = none_there _ _ _ c.check.ensures c.in_ok-check.was _ c.count.ensures _ _ c.not_below.ensures c.in_err-not_below.was in search rules

pub at-requires : goal.at-requires
at-requires c = head_inside _ _ _ c.check.ensures c.in_ok-check.was _ c.count.ensures _ _ c.not_below.ensures c.in_ok-not_below.was

pub returns-clause-found : goal.returns-clause-found
returns-clause-found c = λ h e.
    is_found _ _ _ c.check.ensures c.in_ok-check.was _ c.count.ensures _ _ c.not_below.ensures c.in_ok-not_below.was (cc c.at.ensures)
