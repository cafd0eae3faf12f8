-- One entry after the other.
use Rattle.bundle.specs.Bundle.{entries_from}
use Rattle.text.specs.Put.{Written}
use Rattle.reduce.specs.Report.{entries_text}
use Rattle.reduce.proofs.report.told.Given as goal

abbrev pub invariant-loop-i : goal.invariant-loop-i
invariant-loop-i l = Written (entries_text 0 (entries_from l.i 0 l.bytes)) l.fn.page l.page
