-- What the writer is given, once it has passed the checks: its entries, and the bytes of their bundle. No public promise cites any of it.
use Rattle.std.specs.Prelude.{List, ℕ, length}
use Rattle.bundle.specs.Bundle.{Entry}
use Rattle.pack.specs.Writing.{given, bundle_bytes}
use Rattle.pack.specs.declared.entries.Entries.{Entries}

abbrev pub entries_in : Entries → List Entry
entries_in e = given e.kinds.now e.rows.now e.columns.now e.words.now

abbrev pub bytes_in : Entries → ℕ
bytes_in e = bundle_bytes (length e.kinds.now) (length e.words.now)
