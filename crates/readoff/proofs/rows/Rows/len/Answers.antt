-- The numbers are as many as the rows.
use mathlib.Core.Path.{sym, ap, ◌∙◌}
use lib.ListN.{length}
use Rattle.words.proofs.Rows.{length_rows}
use Rattle.readoff.proofs.rows.Rows.len.Goals as goal

pub returns : goal.returns
returns c = let s = c.self.inside in sym (length_rows s.width s.count s.words.now) ∙ ap length c.self.view_is
