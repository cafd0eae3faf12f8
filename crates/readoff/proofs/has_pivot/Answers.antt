-- There is one where it is found: place_found.
use mathlib.Core.Path.{◌∙◌}
use Rattle.readoff.proofs.Place.{place_found}
use Rattle.readoff.proofs.has_pivot.Goals as goal

pub returns : goal.returns
returns c = let g = c.args in c.is_some.ensures ∙ place_found g.a g.e g.m.now c.pivot_row.result c.pivot_row.ensures
