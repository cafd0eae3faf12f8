-- One row after the other.
use Rattle.std.proofs.Common.{take}
use Rattle.words.specs.Words.{words_of, rows_of}
use Rattle.text.specs.Put.{Written}
use Rattle.reduce.specs.Report.{row_lines}
use Rattle.reduce.proofs.report.row_lines.Given as goal

abbrev pub invariant-loop-i : goal.invariant-loop-i
invariant-loop-i l = Written (row_lines l.columns (take l.i (rows_of (words_of l.columns) l.n l.words))) l.fn.page l.page
