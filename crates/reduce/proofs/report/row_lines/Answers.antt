-- One row after the other.
use Rattle.std.proofs.Common.{ℕ, List, arith, refl, subst}
use lib.Seq.{take_all}
use Rattle.words.proofs.Rows.{length_rows}
use Rattle.words.specs.Words.{words_of, rows_of}
use Rattle.text.specs.Put.{Written}
use Rattle.text.proofs.Putting.{written_then, written_none}
use Rattle.reduce.specs.Report.{row_lines}
use Rattle.reduce.proofs.Lines.{words_more}
use Rattle.reduce.proofs.report.row_lines.Goals as goal

pub loop-i-init : goal.loop-i-init
unfolding row_lines
loop-i-init c = written_none c.requires.2

pub loop-i-preserved : goal.loop-i-preserved
loop-i-preserved c =
    let g = c.args in
    subst (λ (t : List ℕ). Written t g.page.now c.bytes.new.self) (words_more g.columns c.loop-i.i g.n c.per_row-w.result _ _ g.words.now c.loop-i-test.true c.per_row-w.ensures refl refl c.requires.0) (written_then c.loop-i.invariant (written_then c.bits.ensures c.bytes.ensures))

pub returns : goal.returns
returns c =
    let g = c.args in
    let l = c.loop-i in
    subst (λ (t : List ℕ). Written (row_lines g.columns t) g.page.now l.page) (take_all l.i (rows_of (words_of g.columns) g.n g.words.now) (omega (arith, c.loop-i-test.false, length_rows (words_of g.columns) g.n g.words.now))) l.invariant
