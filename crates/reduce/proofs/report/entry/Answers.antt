-- The entry is found and reduced, and the rows that are shown are its first ones.
use Rattle.std.proofs.Common.{rules}
use Rattle.text.proofs.Putting.{put_within}
use Rattle.reduce.proofs.Found.{entry_shown, rows_lent, entry_written}
use Rattle.reduce.proofs.report.entry.Goals as goal

pub unwrap-figures-requires : goal.unwrap-figures-requires
unwrap-figures-requires c =
    let shown = entry_shown _ _ _ _ _ _ _ c.requires.0 c.requires.1 c.requires.2 c.requires.3 c.reduce_entry.ensures in
    search (rules, shown.says)

pub row_lines-requires : goal.row_lines-requires
row_lines-requires c =
    let shown = entry_shown _ _ _ _ _ _ _ c.requires.0 c.requires.1 c.requires.2 c.requires.3 c.reduce_entry.ensures in
    let lent = rows_lent _ _ _ shown _ c.unwrap-figures.ensures in
    (lent.1, lent.0, put_within c.entry_line.ensures.put)

pub returns : goal.returns
returns c =
    let shown = entry_shown _ _ _ _ _ _ _ c.requires.0 c.requires.1 c.requires.2 c.requires.3 c.reduce_entry.ensures in
    entry_written _ _ _ shown _ c.unwrap-figures.ensures _ _ _ _ c.entry_line.ensures c.row_lines.ensures
