-- The table is the list of the codes of 0 to 255: antt computes both.
use mathlib.Core.Path.{◌∙◌}
use Rattle.engine.proofs.Codebook.{book}
use Rattle.gf2.specs.Rows.{tabulate}
use Rattle.engine.proofs.table.code.Goals as goal

pub returns : goal.returns
unfolding tabulate
returns c = c.from.ensures ∙ book c.args.t c.requires
