-- How an answer of a call is seen from C: a refusal as its number, 0 where nothing is refused; and the version of the calls.
use Rattle.std.specs.Prelude.{List, ℕ, length, Result, Ok, Err}
use Rattle.refusals.specs.declared.Refusal.{Refusal}
use Rattle.refusals.specs.Outcome.{number_of, outcome_number}
use Rattle.matrix.specs.declared.Answer.{Answer}
use Rattle.matrix.specs.Calls.{row_view, row_place, figures}
use Rattle.packets.specs.declared.Verdict.{Verdict}
use Rattle.packets.specs.declared.Verdict.TheVariants.{Named, None}
use Rattle.bundle.specs.declared.Numbers.{Numbers}
use Rattle.chhayublo.specs.declared.SeenRow.{SeenRow}
use Rattle.chhayublo.specs.declared.SeenAnswer.{SeenAnswer}
use Rattle.chhayublo.specs.declared.SeenNames.{SeenNames}
use Rattle.chhayublo.specs.declared.SeenCount.{SeenCount}
use Rattle.chhayublo.specs.declared.SeenEntry.{SeenEntry}
use Rattle.chhayublo.specs.declared.SeenLength.{SeenLength}

-- the part that the row view shows: the place of its first word in the caller's buffer, and how many words it has
abbrev pub seen_row : ℕ → ℕ → ℕ → List ℕ → SeenRow
seen_row rows columns i m = record { start = row_place rows columns i (length m); words = length (row_view rows columns i m) }

abbrev pub seen_answer : Result Answer Refusal → SeenAnswer
seen_answer a =
    record { refusal = outcome_number a; rank = (figures a).rank; known = (figures a).known; additions = (figures a).additions; pivots = (figures a).pivots }

-- named is 1 where packets have been named
abbrev pub seen_verdict : Result Verdict Refusal → SeenNames
seen_verdict (Ok Named) = record { refusal = 0; named = 1 }
seen_verdict (Ok None) = record { refusal = 0; named = 0 }
seen_verdict (Err r) = record { refusal = number_of r; named = 0 }

-- ---- bundles: what a call does not tell beside a refusal is 0

abbrev pub seen_count : Result ℕ Refusal → SeenCount
seen_count (Ok n) = record { refusal = 0; entries = n }
seen_count (Err r) = record { refusal = number_of r; entries = 0 }

abbrev pub seen_entry : Result Numbers Refusal → SeenEntry
seen_entry (Ok e) = record { refusal = 0; kind = e.kind; rows = e.rows; columns = e.columns }
seen_entry (Err r) = record { refusal = number_of r; kind = 0; rows = 0; columns = 0 }

abbrev pub seen_length : Result ℕ Refusal → SeenLength
seen_length (Ok n) = record { refusal = 0; bytes = n }
seen_length (Err r) = record { refusal = number_of r; bytes = 0 }

-- ---- the version: it grows with each change of a struct or a call

abbrev pub version : ℕ
version = 1
