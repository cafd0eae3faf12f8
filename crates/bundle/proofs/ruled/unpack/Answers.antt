-- The entry's numbers, and its rows.
use mathlib.Core.Path.{◌∙◌}
use Rattle.bundle.proofs.Meaning.{unpacked}
use Rattle.bundle.proofs.ruled.unpack.Goals as goal

pub returns : goal.returns
returns c =
    let found = c.find.ensures.found _ c.in_ok-head.was in
    unpacked found c.args.words.now (c.if-words.false ∙ c.words.ensures.0) (λ j. (c.type_inv.bytes j).fits) c.numbers.ensures c.fill.ensures
