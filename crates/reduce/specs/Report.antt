-- What the program writes, as a function of the bytes that it reads.
use Rattle.std.specs.Prelude.{cond, List, [], ◌∷◌, ◌++◌, ℕ, ◌+◌, eqb, length, Ok, Err}
use Rattle.gf2.specs.Reduced.{rank}
use Rattle.gf2.specs.Additions.{additions}
use Rattle.gf2.specs.Rref.{rref}
use Rattle.bundle.specs.Bundle.{Entry, Meaning, both_kinds, meaning}
use Rattle.text.specs.Text.{ascii, newline, decimal, bits}
use Rattle.desk.specs.Desk.{window_columns, refused_text}

-- the line that opens entry i
unfoldable pub entry_line : ℕ → ℕ → ℕ → ℕ → ℕ → List ℕ
entry_line i rows columns ranked added =
    ascii "entry " ++ decimal i ++ (ascii " rows " ++ decimal rows) ++ (ascii " columns " ++ decimal columns)
    ++ (ascii " rank " ++ decimal ranked) ++ (ascii " additions " ++ decimal added) ++ newline

-- a line for each row that is not zero
unfoldable pub row_lines : ℕ → List ℕ → List ℕ
row_lines columns [] = []
row_lines columns (v ∷ R) = cond (eqb v 0) (row_lines columns R) (bits columns v ++ newline ++ row_lines columns R)

-- an entry whose reduced form is R
unfoldable pub entry_text : ℕ → Entry → List ℕ → List ℕ
entry_text i e R = entry_line i e.rows e.columns (rank R) (additions window_columns e.columns R) ++ row_lines e.columns R

-- the entries, counted from i
unfoldable pub entries_text : ℕ → List Entry → List ℕ
entries_text i [] = []
entries_text i (e ∷ es) = entry_text i e (rref e.matrix) ++ entries_text (i + 1) es

-- the text of a bundle, with the count at the end; or of a refusal
unfoldable pub meaning_text : Meaning → List ℕ
meaning_text (Ok es) = entries_text 0 es ++ (ascii "done " ++ decimal (length es) ++ newline)
meaning_text (Err r) = refused_text r

-- the whole text
unfoldable pub report : List ℕ → List ℕ
report b = meaning_text (meaning both_kinds b)
