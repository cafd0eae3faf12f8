-- A mark that is set counts one.
use mathlib.Core.Path.{◌≡◌, ◌∙◌}
use borrow.Author.Rules.{rules}
use lib.Dec.{eqb}
use Rattle.std.specs.Prelude.{count_by}
use Rattle.readoff.proofs.Saying.{marked_count}
use Rattle.readoff.proofs.marks_set.Goals as goal

pub returns : goal.returns
returns c =
    let counted : c.count.result ≡ count_by (λ x. eqb x 1) c.args.marks.now = search rules in
    counted ∙ marked_count c.args.marks.now c.requires
