-- A word, a number and the end of the line.
use Rattle.std.proofs.Common.{ℕ, ◌∙◌, subst}
use Rattle.text.specs.Text.{ascii, decimal}
use Rattle.text.specs.Put.{Written}
use Rattle.text.proofs.Putting.{written_then}
use Rattle.desk.specs.Desk.{refused_text}
use Rattle.desk.proofs.refused.Goals as goal

pub returns : goal.returns
unfolding refused_text ascii
returns c =
    let number = subst (λ (n : ℕ). Written (decimal n) c.bytes.new.self c.decimal.new.self) (c.from-2.ensures ∙ c.from.ensures) c.decimal.ensures in
    written_then (written_then c.bytes.ensures number) c.bytes-2.ensures
