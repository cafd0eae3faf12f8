-- What is written of the sample bundle, computed by the checker.
use mathlib.Core.Path.{◌≡◌, refl, ap, ◌∙◌}
use Rattle.gf2.specs.Rows.{pick}
use Rattle.gf2.specs.Reduced.{zeros_in, pivot, add_pivot, pivots}
use Rattle.gf2.specs.Rref.{clear, clear_all, above, place_by, place, rref}
use Rattle.gf2.specs.Additions.{within, in_window, total_to, table_additions}
use Rattle.std.specs.Prelude.{Ok}
use Rattle.bundle.specs.Sample.{sample, matrices}
use Rattle.bundle.proofs.Holds.{sample_means}
use Rattle.text.specs.Text.{ascii, shortest, decimal, bits}
use Rattle.reduce.specs.Report.{entry_line, row_lines, entry_text, entries_text, meaning_text, report}

lines : meaning_text (Ok (matrices 1)) ≡ ascii "entry 0 rows 2 columns 2 rank 2 additions 3\n10\n01\nentry 1 rows 3 columns 3 rank 1 additions 1\n011\ndone 2\n"
unfolding matrices meaning_text entries_text entry_text entry_line row_lines ascii decimal shortest bits rref place place_by above clear_all clear pick pivot zeros_in pivots add_pivot total_to in_window within table_additions
lines = refl

pub six_lines : report sample ≡ ascii "entry 0 rows 2 columns 2 rank 2 additions 3\n10\n01\nentry 1 rows 3 columns 3 rank 1 additions 1\n011\ndone 2\n"
unfolding report
six_lines = ap meaning_text sample_means ∙ lines
