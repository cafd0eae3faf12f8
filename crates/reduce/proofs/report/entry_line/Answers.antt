-- One field after the other.
use Rattle.text.specs.Text.{ascii}
use Rattle.text.proofs.Putting.{written_then}
use Rattle.reduce.specs.Report.{entry_line}
use Rattle.reduce.proofs.report.entry_line.Goals as goal

pub returns : goal.returns
unfolding entry_line ascii
returns c =
    written_then (written_then (written_then (written_then (written_then c.field.ensures c.field-2.ensures) c.field-3.ensures) c.field-4.ensures) c.field-5.ensures) c.bytes.ensures
