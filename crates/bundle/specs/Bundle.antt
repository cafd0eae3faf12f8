-- What bytes say as a bundle: its entries, or the refusal that the order of the checks gives first.
use Rattle.std.specs.Prelude.{◌≡◌, true, not, cond, List, [], ◌∷◌, ℕ, zero, suc, ◌+◌, ◌*◌, ◌<◌, ◌≤◌, eqb, ltb, length, Result, Ok, Err}
use Rattle.std.specs.Result.{result_and, result_or}
use Rattle.words.specs.Words.{words_of, rows_of, narrow}
use Rattle.wire.specs.Bytes.{num}
use Rattle.wire.specs.Kinds.{words_at}
use Rattle.refusals.specs.declared.Refusal.{Refusal}
use Rattle.refusals.specs.declared.Refusal.TheVariants.{DirtyPadding, BundleSize, EntryCount, ContentsCut, BadKind, BadShape, WrongOffset, BodyPast, BytesLeft}
use Rattle.refusals.specs.Outcome.{Outcome, refuse_if, ◌and_then◌, first}
use Rattle.refusals.specs.Checks.{size_checks, Sized}

-- a matrix in a bundle, its rows as numbers
pub record Entry : Type 0 where
  pub kind : ℕ
  pub rows : ℕ
  pub columns : ℕ
  pub matrix : List ℕ

-- the words of a body
unfoldable pub body_words : ℕ → ℕ → ℕ
body_words rows columns = rows * words_of columns

-- ---- where things stand

-- two bytes for the count; ten for each entry, its kind, rows and columns in two each, and in four where its body begins, counted from the bundle's first byte; then the bodies

abbrev pub head_bytes : ℕ → ℕ
head_bytes n = 2 + 10 * n

abbrev pub count_of : List ℕ → ℕ
count_of b = num 2 0 b

abbrev pub kind_at : ℕ → List ℕ → ℕ
kind_at i b = num 2 (head_bytes i) b

abbrev pub rows_at : ℕ → List ℕ → ℕ
rows_at i b = num 2 (head_bytes i + 2) b

abbrev pub columns_at : ℕ → List ℕ → ℕ
columns_at i b = num 2 (head_bytes i + 4) b

abbrev pub offset_at : ℕ → List ℕ → ℕ
offset_at i b = num 4 (head_bytes i + 6) b

abbrev pub words_in : ℕ → List ℕ → ℕ
words_in i b = body_words (rows_at i b) (columns_at i b)

-- the matrix in a body that begins at byte p. A one past its last column shows in the row's number, whichever the kind
unfoldable pub matrix_at : ℕ → ℕ → ℕ → ℕ → List ℕ → List ℕ
matrix_at kind p rows columns b = rows_of (words_of columns) rows (words_at kind p (body_words rows columns) b)

-- ---- the checks of an entry

-- A rule says what a kind gets. This one takes kind 1, gives kind 2 what it is told, and knows no other (23).
unfoldable pub kind_rule : Outcome → ℕ → Outcome
kind_rule two kind = cond (eqb kind 2) two (refuse_if (not (eqb kind 1)) BadKind)

-- both kinds are taken
abbrev pub both_kinds : ℕ → Outcome
both_kinds = kind_rule (Ok tt)

-- too many rows; no columns, or too many (24, whichever it is)
unfoldable pub bad_shape : ℕ → ℕ → Outcome
bad_shape rows columns = result_or (size_checks rows columns) (Err BadShape)

-- a body that should begin at byte p: where the contents say it is (25), inside the bundle (26), its padding zero (5)
unfoldable pub body_order : ℕ → ℕ → ℕ → ℕ → ℕ → List ℕ → List Outcome
body_order kind rows columns offset p b =
    refuse_if (not (eqb offset p)) WrongOffset
    ∷ refuse_if (ltb (length b) (p + 8 * body_words rows columns)) BodyPast
    ∷ refuse_if (not (narrow columns (matrix_at kind p rows columns b))) DirtyPadding
    ∷ []

-- entry i, whose body should begin at byte p: its kind, its shape, then the body
unfoldable pub entry_order : (ℕ → Outcome) → ℕ → ℕ → List ℕ → List Outcome
entry_order rule i p b =
    rule (kind_at i b)
    ∷ bad_shape (rows_at i b) (columns_at i b)
    ∷ first (body_order (kind_at i b) (rows_at i b) (columns_at i b) (offset_at i b) p b)
    ∷ []

-- n entries from entry i on, one after the other, their bodies from byte p on; then nothing may be left (27)
unfoldable pub entries_checks : (ℕ → Outcome) → ℕ → ℕ → ℕ → List ℕ → Outcome
entries_checks rule zero i p b = refuse_if (not (eqb p (length b))) BytesLeft
entries_checks rule (suc n) i p b = first (entry_order rule i p b) and_then entries_checks rule n (i + 1) (p + 8 * words_in i b) b

-- ---- the whole

-- the bundle's length (20), its count (21), room for the contents (22); then entry by entry
unfoldable pub bundle_order : (ℕ → Outcome) → List ℕ → List Outcome
bundle_order rule b =
    refuse_if (ltb (length b) 2) BundleSize
    ∷ refuse_if (ltb 65535 (length b)) BundleSize
    ∷ refuse_if (eqb (count_of b) 0) EntryCount
    ∷ refuse_if (ltb 64 (count_of b)) EntryCount
    ∷ refuse_if (ltb (length b) (head_bytes (count_of b))) ContentsCut
    ∷ entries_checks rule (count_of b) 0 (head_bytes (count_of b)) b
    ∷ []

abbrev pub bundle_checks : (ℕ → Outcome) → List ℕ → Outcome
bundle_checks rule b = first (bundle_order rule b)

-- ---- what passing means

-- the body stands where it should, inside the bundle, with no one past its last column
pub record Stands (kind rows columns offset p : ℕ) (b : List ℕ) : Type 0 where
  pub here : offset ≡ p
  pub inside : p + 8 * body_words rows columns ≤ length b
  pub clean : narrow columns (matrix_at kind p rows columns b) ≡ true

-- entry i passes: its kind is taken, it has the sizes of a matrix, and its body stands at byte p
pub record Placed (rule : ℕ → Outcome) (i p : ℕ) (b : List ℕ) : Type 0 where
  pub taken : rule (kind_at i b) ≡ Ok tt
  pub shape : Sized 512 (rows_at i b) (columns_at i b)
  pub body : Stands (kind_at i b) (rows_at i b) (columns_at i b) (offset_at i b) p b

-- bytes pass as a bundle
pub record Accepted (rule : ℕ → Outcome) (b : List ℕ) : Type 0 where
  pub long : 2 ≤ length b
  pub short : length b ≤ 65535
  pub any : 0 < count_of b
  pub few : count_of b ≤ 64
  pub whole : head_bytes (count_of b) ≤ length b
  pub entries : entries_checks rule (count_of b) 0 (head_bytes (count_of b)) b ≡ Ok tt

-- ---- what bytes mean

-- entry i: its numbers as the contents give them, its matrix from where they say that it begins
unfoldable pub entry_at : ℕ → List ℕ → Entry
entry_at i b =
    record { kind = kind_at i b; rows = rows_at i b; columns = columns_at i b; matrix = matrix_at (kind_at i b) (offset_at i b) (rows_at i b) (columns_at i b) b }

-- n entries from entry i on
unfoldable pub entries_from : ℕ → ℕ → List ℕ → List Entry
entries_from zero i b = []
entries_from (suc n) i b = entry_at i b ∷ entries_from n (i + 1) b

-- as many as the count says
unfoldable pub entries_of : List ℕ → List Entry
entries_of b = entries_from (count_of b) 0 b

-- what bytes mean: the entries of a bundle, or why they are none
abbrev pub Meaning : Type 0
Meaning = Result (List Entry) Refusal

-- the entries, where the checks refuse nothing
abbrev pub meant_by : Outcome → List Entry → Meaning
meant_by o es = result_and o (Ok es)

-- the meaning of bytes, under a rule for kinds
unfoldable pub meaning : (ℕ → Outcome) → List ℕ → Meaning
meaning rule b = meant_by (bundle_checks rule b) (entries_of b)
