-- What programs say of a refusal, and what reducing an entry of a bundle gives.
use Rattle.std.specs.Prelude.{◌≡◌, Bool, true, false, ◌&&◌, List, ◌++◌, ℕ, ◌*◌, ◌^◌, leb, length, drop, Result, Ok, Err}
use Rattle.gf2.specs.Reduced.{rank}
use Rattle.gf2.specs.Additions.{additions}
use Rattle.gf2.specs.Rref.{rref}
use Rattle.words.specs.Words.{words_of, flat, zeroed}
use Rattle.refusals.specs.declared.Refusal.{Refusal}
use Rattle.refusals.specs.Outcome.{number_of}
use Rattle.bundle.specs.Bundle.{Entry, body_words, both_kinds, meaning}
use Rattle.bundle.specs.Answers.{Lookup, find}
use Rattle.text.specs.Text.{ascii, newline, decimal}
use Rattle.desk.specs.declared.Figures.{Figures}
use Rattle.desk.specs.declared.NotReduced.{NotReduced}
use Rattle.desk.specs.declared.NotReduced.TheVariants.{Refused, Unfit}

-- `refused` and the number
unfoldable pub refused_text : Refusal → List ℕ
refused_text r = ascii "refused " ++ decimal (number_of r) ++ newline

-- how many columns a window has, in every program; and how many rows a table
abbrev pub window_columns : ℕ
window_columns = 4

abbrev pub table_rows : ℕ
table_rows = 2 ^ window_columns

-- an entry's shape, and the rank and table additions of its reduced form
unfoldable pub reduced_of : Entry → Figures
reduced_of e = record { rows = e.rows; columns = e.columns; rank = rank (rref e.matrix); additions = additions window_columns e.columns (rref e.matrix) }

-- there are words for the entry's body, and a work room for its tables
unfoldable pub room_for : Entry → List ℕ → List ℕ → Bool
room_for e words room = leb (body_words e.rows e.columns) (length words) && leb (table_rows * words_of e.columns) (length room)

-- reduced at the front of the words; or, where there is too little room, nothing has changed
abbrev pub ReducedBy : Bool → Entry → List ℕ → List ℕ → Result Figures NotReduced → List ℕ → List ℕ → Type 0
ReducedBy true e words room r words' room' =
    (r ≡ Ok (reduced_of e)) × (words' ≡ flat (words_of e.columns) (rref e.matrix) ++ drop (body_words e.rows e.columns) words)
    × (room' ≡ zeroed 0 (table_rows * words_of e.columns) room)
ReducedBy false e words room r words' room' = (r ≡ Err Unfit) × (words' ≡ words) × (room' ≡ room)

-- the same of an entry that is found; where none is, the refusal, and nothing has changed
abbrev pub ReducedFound : Lookup → List ℕ → List ℕ → Result Figures NotReduced → List ℕ → List ℕ → Type 0
ReducedFound (Ok e) words room r words' room' = ReducedBy (room_for e words room) e words room r words' room'
ReducedFound (Err x) words room r words' room' = (r ≡ Err (Refused x)) × (words' ≡ words) × (room' ≡ room)

-- entry i of a bundle
abbrev pub ReducedEntry : ℕ → List ℕ → List ℕ → List ℕ → Result Figures NotReduced → List ℕ → List ℕ → Type 0
ReducedEntry i b words room r words' room' = ReducedFound (find i (meaning both_kinds b)) words room r words' room'
