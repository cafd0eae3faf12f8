-- The number of the eight bytes, in the kind's order.
use mathlib.Core.Path.{ap, ◌∙◌}
use Rattle.wire.specs.Kinds.{order}
use Rattle.bundle.proofs.body.word.Goals as goal

pub returns : goal.returns
returns c = c.ordered.ensures ∙ ap (order c.args.kind) c.number.ensures
