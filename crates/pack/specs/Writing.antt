-- What the writer writes and answers.
use Rattle.std.specs.Prelude.{◌≡◌, Bool, true, not, ◌&&◌, List, [], ◌∷◌, ◌++◌, ℕ, ◌+◌, ◌*◌, ◌<◌, ◌≤◌, eqb, ltb, length, drop, Result, Ok, Err}
use Rattle.std.specs.Result.{result_and}
use Rattle.words.specs.Words.{words_of, rows_of, narrow}
use Rattle.refusals.specs.declared.Refusal.{Refusal}
use Rattle.refusals.specs.declared.Refusal.TheVariants.{WrongLength, DirtyPadding, WrongBuffer, EntryCount, ShortOutput, BundleOver}
use Rattle.refusals.specs.Outcome.{Outcome, refuse_if, ◌and_then◌, first}
use Rattle.bundle.specs.Bundle.{Entry, body_words, head_bytes, bad_shape}
use Rattle.pack.specs.Encode.{encode}

-- the entries that the lists give: each takes its rows from the front of the words
unfoldable pub given : List ℕ → List ℕ → List ℕ → List ℕ → List Entry
given [] rs cs ws = []
given (k ∷ ks) [] cs ws = []
given (k ∷ ks) (r ∷ rs) [] ws = []
given (k ∷ ks) (r ∷ rs) (c ∷ cs) ws =
    record { kind = k; rows = r; columns = c; matrix = rows_of (words_of c) r ws } ∷ given ks rs cs (drop (body_words r c) ws)

-- ---- the checks

-- kind and shape, entry by entry
unfoldable pub shapes_checks : (ℕ → Outcome) → List ℕ → List ℕ → List ℕ → Outcome
shapes_checks rule [] rs cs = Ok tt
shapes_checks rule (k ∷ ks) [] cs = Ok tt
shapes_checks rule (k ∷ ks) (r ∷ rs) [] = Ok tt
shapes_checks rule (k ∷ ks) (r ∷ rs) (c ∷ cs) = rule k and_then bad_shape r c and_then shapes_checks rule ks rs cs

-- the words of all bodies
unfoldable pub all_words : List ℕ → List ℕ → ℕ
all_words [] cs = 0
all_words (r ∷ rs) [] = 0
all_words (r ∷ rs) (c ∷ cs) = body_words r c + all_words rs cs

-- no row of any entry has a one past its last column
unfoldable pub all_narrow : List Entry → Bool
all_narrow [] = true
all_narrow (e ∷ es) = narrow e.columns e.matrix && all_narrow es

-- the bytes of a bundle of n entries and m words
abbrev pub bundle_bytes : ℕ → ℕ → ℕ
bundle_bytes n m = head_bytes n + 8 * m

-- past kinds and shapes: the words of all bodies together (4), their padding (5), the bundle's length (29), the output's room (28)
unfoldable pub rest_order : List ℕ → List ℕ → List ℕ → List ℕ → ℕ → List Outcome
rest_order ks rs cs ws room =
    refuse_if (not (eqb (length ws) (all_words rs cs))) WrongLength
    ∷ refuse_if (not (all_narrow (given ks rs cs ws))) DirtyPadding
    ∷ refuse_if (ltb 65535 (bundle_bytes (length ks) (length ws))) BundleOver
    ∷ refuse_if (ltb room (bundle_bytes (length ks) (length ws))) ShortOutput
    ∷ []

-- lists of one length (13), from 1 to 64 entries (21), for each entry 23 and 24, then the rest
unfoldable pub write_order : (ℕ → Outcome) → List ℕ → List ℕ → List ℕ → List ℕ → ℕ → List Outcome
write_order rule ks rs cs ws room =
    refuse_if (not (eqb (length rs) (length ks))) WrongBuffer
    ∷ refuse_if (not (eqb (length cs) (length ks))) WrongBuffer
    ∷ refuse_if (eqb (length ks) 0) EntryCount
    ∷ refuse_if (ltb 64 (length ks)) EntryCount
    ∷ shapes_checks rule ks rs cs
    ∷ first (rest_order ks rs cs ws room)
    ∷ []

abbrev pub write_checks : (ℕ → Outcome) → List ℕ → List ℕ → List ℕ → List ℕ → ℕ → Outcome
write_checks rule ks rs cs ws room = first (write_order rule ks rs cs ws room)

-- ---- what passing means

-- the lists and words can be written as a bundle, in that much room
pub record Writable (rule : ℕ → Outcome) (ks rs cs ws : List ℕ) (room : ℕ) : Type 0 where
  pub rows_too : length rs ≡ length ks
  pub columns_too : length cs ≡ length ks
  pub any : 0 < length ks
  pub few : length ks ≤ 64
  pub shapes : shapes_checks rule ks rs cs ≡ Ok tt
  pub words_fit : all_words rs cs ≡ length ws
  pub clean : all_narrow (given ks rs cs ws) ≡ true
  pub short : bundle_bytes (length ks) (length ws) ≤ 65535
  pub fits : bundle_bytes (length ks) (length ws) ≤ room

-- ---- what is answered, and what the output then holds

unfoldable pub written_by : Outcome → ℕ → Result ℕ Refusal
written_by o n = result_and o (Ok n)

-- the bundle, and past it what stood there; or the output as it was
unfoldable pub output_by : Outcome → List ℕ → List ℕ → List ℕ
output_by (Ok t) b out = b ++ drop (length b) out
output_by (Err r) b out = out

-- the writer's answer, and the output, under a rule for kinds
abbrev pub written : (ℕ → Outcome) → List ℕ → List ℕ → List ℕ → List ℕ → ℕ → Result ℕ Refusal
written rule ks rs cs ws room = written_by (write_checks rule ks rs cs ws room) (bundle_bytes (length ks) (length ws))

abbrev pub output : (ℕ → Outcome) → List ℕ → List ℕ → List ℕ → List ℕ → List ℕ → List ℕ
output rule ks rs cs ws out = output_by (write_checks rule ks rs cs ws (length out)) (encode (given ks rs cs ws)) out
