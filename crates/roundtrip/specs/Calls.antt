-- Calls on bundles: what each was given, what it answered and what it left. Its promise, word for word, says how these belong together.
use Rattle.std.specs.Prelude.{◌≡◌, refl, List, [], ◌∷◌, ◌++◌, ℕ, zero, suc, ◌+◌, length, replicate, Result, Ok, Err}
use Rattle.std.proofs.lemmas.List.{length-replicate}
use Rattle.words.specs.Words.{rows_of, flat, narrow}
use Rattle.wire.specs.Bytes.{num}
use Rattle.wire.specs.Kinds.{order, words_at}
use Rattle.refusals.specs.declared.Refusal.{Refusal}
use Rattle.refusals.specs.Checks.{too_many_rows, bad_columns, size_checks}
use Rattle.bundle.specs.Bundle.{body_words, kind_rule, both_kinds, bad_shape, matrix_at, body_order, entry_order, entries_checks, bundle_order, entry_at, entries_from, entries_of, meaning}
use Rattle.bundle.specs.Answers.{counted_in, entry_in, find, told_of, lent_for, lent_entry, unpacked_of}
use Rattle.bundle.specs.Sample.{sample}
use Rattle.bundle.specs.declared.Numbers.{Numbers}
use Rattle.pack.specs.Writing.{written, output}

-- bundle::read of bytes b
pub record ReadCall (b : List ℕ) : Type 0 where
  pub answer : Result ℕ Refusal
  pub promise : answer ≡ counted_in (meaning both_kinds b)

-- bundle::entry of bytes b and a number i
pub record EntryCall (b : List ℕ) (i : ℕ) : Type 0 where
  pub answer : Result Numbers Refusal
  pub promise : answer ≡ told_of (find i (meaning both_kinds b))

-- bundle::unpack of bytes b and a number i; the words as they were lent, and as the call left them
pub record UnpackCall (b : List ℕ) (i : ℕ) : Type 0 where
  pub words : List ℕ
  pub answer : Result Numbers Refusal
  pub words' : List ℕ
  pub promise : (answer ≡ told_of (lent_entry both_kinds i b words)) × (words' ≡ unpacked_of (lent_entry both_kinds i b words) words)

-- pack::write of kinds, rows, columns and words; the output as it was lent, and as the call left it
pub record WriteCall (ks rs cs ws out : List ℕ) : Type 0 where
  pub answer : Result ℕ Refusal
  pub out' : List ℕ
  pub promise : (answer ≡ written both_kinds ks rs cs ws (length out)) × (out' ≡ output both_kinds ks rs cs ws out)

-- ---- the numbers in an answer; a refusal has none

abbrev pub kind_in : Result Numbers Refusal → ℕ
kind_in (Ok n) = n.kind
kind_in (Err r) = 0

abbrev pub rows_in : Result Numbers Refusal → ℕ
rows_in (Ok n) = n.rows
rows_in (Err r) = 0

abbrev pub columns_in : Result Numbers Refusal → ℕ
columns_in (Ok n) = n.columns
columns_in (Err r) = 0

-- an answer that is no refusal
abbrev pub NotRefused : Result Numbers Refusal → Type 0
NotRefused t = t ≡ Ok (record { kind = kind_in t; rows = rows_in t; columns = columns_in t })

-- ---- unpacking entry by entry

-- for n entries from entry i on, in order: asking for the entry, then unpacking it into as many words as the answer's rows take
pub data Unpacking (b : List ℕ) : ℕ → ℕ → Type 0 where
  none : {i : ℕ} → Unpacking b i 0
  next : {i n : ℕ} (a : EntryCall b i) (c : UnpackCall b i) → length c.words ≡ body_words (rows_in a.answer) (columns_in a.answer)
      → Unpacking b (i + 1) n → Unpacking b i (suc n)

module _ {b : List ℕ} where
  -- no unpacking was refused
  unfoldable pub NoneRefused : {i n : ℕ} → Unpacking b i n → Type 0
  NoneRefused none = Unit {0}
  NoneRefused (next a c l cs) = NotRefused c.answer × NoneRefused cs

  -- the kinds, rows and columns that the unpackings told
  unfoldable pub kinds_told : {i n : ℕ} → Unpacking b i n → List ℕ
  kinds_told none = []
  kinds_told (next a c l cs) = kind_in c.answer ∷ kinds_told cs

  unfoldable pub rows_told : {i n : ℕ} → Unpacking b i n → List ℕ
  rows_told none = []
  rows_told (next a c l cs) = rows_in c.answer ∷ rows_told cs

  unfoldable pub columns_told : {i n : ℕ} → Unpacking b i n → List ℕ
  columns_told none = []
  columns_told (next a c l cs) = columns_in c.answer ∷ columns_told cs

  -- the words that they left, those of one entry after the other
  unfoldable pub words_left : {i n : ℕ} → Unpacking b i n → List ℕ
  words_left none = []
  words_left (next a c l cs) = c.words' ++ words_left cs

-- ---- such calls there are

-- For any bytes and any n, n of them; that none is refused where `read` accepts the bytes says `written_by_calls` (proofs/Calls).
unfoldable pub unpacking : (b : List ℕ) (i n : ℕ) → Unpacking b i n
unpacking b i zero = none
unpacking b i (suc n) =
    let t : Result Numbers Refusal = told_of (find i (meaning both_kinds b)) in
    let size : ℕ = body_words (rows_in t) (columns_in t) in
    let ws : List ℕ = replicate size 0 in
    next (record { answer = t; promise = refl })
    (record { words = ws; answer = told_of (lent_entry both_kinds i b ws); words' = unpacked_of (lent_entry both_kinds i b ws) ws; promise = (refl, refl) })
    (length-replicate size 0) (unpacking b (i + 1) n)

-- of the sample they leave the words of its first entry, then those of its second
pub sample_left : words_left (unpacking sample 0 2) ≡ 3 ∷ 1 ∷ 6 ∷ 6 ∷ 0 ∷ []
unfolding words_left unpacking sample meaning bundle_order entries_checks entry_order body_order bad_shape size_checks too_many_rows bad_columns kind_rule
    matrix_at body_words narrow rows_of words_at order num entries_of entries_from entry_at find entry_in told_of lent_for unpacked_of flat
sample_left = refl
