-- room is less than need x w exactly if room divided by w is less than need.
use mathlib.Core.Path.{◌∙◌}
use Prim.Native.Nat.{◌/◌}
use borrow.Author.Tests.{lt-ltb}
use Rattle.refusals.proofs.Division.{short_none, short_far, short_few, short_rest}
use borrow.Author.Rules.{rules}
use Rattle.refusals.proofs.is_short.Goals as goal

pub returns-then-w-eq0 : goal.returns-then-w-eq0
returns-then-w-eq0 c = short_none _ _ _ _ c.if-w-eq0.true

pub returns-then-k-gt63 : goal.returns-then-k-gt63
returns-then-k-gt63 c = short_far _ _ _ _ c.if-w-eq0.false c.if-k-gt63.true (search rules)

pub returns-then-rows-more : goal.returns-then-rows-more
returns-then-rows-more c = let a = c.args in lt-ltb (a.room / a.w) a.more c.if-rows-more.true ∙ short_few a.room a.more a.k a.w c.if-w-eq0.false c.if-rows-more.true

pub returns-else-rows-more : goal.returns-else-rows-more
returns-else-rows-more c = let a = c.args in short_rest a.room a.more a.k a.w c.if-w-eq0.false (search rules) (search rules)
