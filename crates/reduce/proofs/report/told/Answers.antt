-- One entry after the other, then the count; or the refusal.
use Rattle.std.proofs.Common.{ℕ, List, ◌++◌, ◌≡◌, sym, ap, ◌∙◌, subst, arith}
use Rattle.bundle.specs.Bundle.{both_kinds, entries_from}
use Rattle.bundle.proofs.Exactly.{exactly}
use Rattle.text.specs.Text.{ascii, newline, decimal}
use Rattle.text.specs.Put.{Written}
use Rattle.text.proofs.Putting.{written_then, written_none}
use Rattle.reduce.specs.Report.{entries_text}
use Rattle.reduce.proofs.Entries.{next_entry, report_refused, report_entries}
use Rattle.reduce.proofs.report.told.Goals as goal

pub loop-i-init : goal.loop-i-init
unfolding entries_text entries_from
loop-i-init c = written_none c.requires.2

pub entry-requires : goal.entry-requires
entry-requires c =
    let ok = (exactly both_kinds c.args.bytes.now c.in-Ok.n).0 (sym c.read.ensures ∙ c.in-Ok.is) in
    (ok.0, omega (arith, ok.1, c.loop-i-test.true), omega (arith, c.requires.0, c.loop-i.auto.words), omega (arith, c.requires.1, c.loop-i.auto.room))

pub loop-i-preserved : goal.loop-i-preserved
loop-i-preserved c =
    subst (λ (t : List ℕ). Written t c.args.page.now c.entry.new.page) (next_entry c.loop-i.i c.args.bytes.now) (written_then c.loop-i.invariant c.entry.ensures)

pub returns-in-Err : goal.returns-in-Err
returns-in-Err c = subst (λ (t : List ℕ). Written t c.args.page.now c.refused.new.page) (report_refused c.args.bytes.now _ (sym c.read.ensures ∙ c.in-Err.is)) c.refused.ensures

pub returns-after-loop-i : goal.returns-after-loop-i
unfolding ascii
returns-after-loop-i c =
    let b = c.args.bytes.now in
    let n = c.in-Ok.n in
    let ok = (exactly both_kinds b n).0 (sym c.read.ensures ∙ c.in-Ok.is) in
    let l = c.loop-i in
    let z : l.i ≡ n = omega (arith, c.loop-i-test.false, l.auto.i-end) in
    let all = ap (λ (k : ℕ). entries_text 0 (entries_from k 0 b) ++ (ascii "done " ++ decimal n ++ newline)) z ∙ report_entries b n ok.0 ok.1 in
    subst (λ (t : List ℕ). Written t c.args.page.now c.bytes.new.self) all (written_then l.invariant (written_then c.field.ensures c.bytes.ensures))
