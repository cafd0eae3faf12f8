-- A name, then a number.
use Rattle.text.proofs.Putting.{written_then}
use Rattle.reduce.proofs.report.field.Goals as goal

pub returns : goal.returns
returns c = written_then c.bytes.ensures c.decimal.ensures
