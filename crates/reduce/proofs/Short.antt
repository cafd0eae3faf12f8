-- The report of any input is shorter than the buffer that it is put in.
use mathlib.Core.Path.{◌≡◌, refl, sym, ap, ap₂, ◌∙◌, subst}
use mathlib.Core.Bool.{Bool, true, false, cond}
use mathlib.Core.List.{List, [], ◌∷◌, ◌++◌}
use Prim.Native.Nat.{ℕ, zero, suc, ◌+◌, ◌*◌, ◌/◌, ◌%◌, ◌≤◌}
use native.Mathlib.Nat.{le_trans, mul-le-mul_left, mul_assoc, mul_comm, zero-mul, suc-mul}
use native.Mathlib.Omega.{arith}
use lib.Dec.{eqb, ltb, lit≤}
use lib.ListN.{length, take, drop, length-append}
use lib.Seq.{take-append_seam}
use Rattle.gf2.specs.Reduced.{rank}
use Rattle.gf2.specs.Additions.{additions}
use Rattle.gf2.specs.Rref.{rref}
use Rattle.gf2.proofs.Rref.{rref_form}
use Rattle.words.specs.Words.{words_of}
use Rattle.std.specs.Prelude.{Ok, Err}
use Rattle.refusals.specs.Outcome.{Outcome, number_of}
use Rattle.refusals.specs.Checks.{Sized}
use Rattle.bundle.specs.Bundle.{Entry, body_words, head_bytes, count_of, words_in, both_kinds, entries_checks, bundle_checks, entry_at, entries_from, entries_of, meant_by, meaning, Accepted}
use Rattle.bundle.proofs.Passing.{entries_step, entries_end, accepted}
use Rattle.bundle.proofs.Bodies.{length_matrix}
use Rattle.text.specs.Text.{ascii, newline, shortest, decimal, bits}
use Rattle.text.specs.Put.{Put}
use Rattle.text.proofs.Putting.{put_all}
use Rattle.desk.specs.Desk.{window_columns, refused_text}
use Rattle.reduce.specs.Report.{entry_line, row_lines, entry_text, entries_text, meaning_text, report}

length_shortest : (d n : ℕ) → length (shortest d n) ≤ d
unfolding shortest
length_shortest zero n = lit≤ tt
length_shortest (suc d) n = go (ltb n 10) (length_shortest d (n / 10))
  where
    go : (t : Bool) → length (shortest d (n / 10)) ≤ d → length (cond t ((48 + n) ∷ []) (shortest d (n / 10) ++ ((48 + n % 10) ∷ []))) ≤ suc d
    go true h = omega arith
    go false h = omega (arith, length-append (shortest d (n / 10)) ((48 + n % 10) ∷ []))

length_decimal : (n : ℕ) → length (decimal n) ≤ 20
unfolding decimal
length_decimal n = length_shortest 20 n

length_bits : (c v : ℕ) → length (bits c v) ≡ c
unfolding bits
length_bits zero v = refl
length_bits (suc c) v = ap suc (length_bits c (v / 2))

length_lines : (columns : ℕ) (R : List ℕ) → length (row_lines columns R) ≤ length R * (columns + 1)
unfolding row_lines
length_lines columns [] = omega (arith, zero-mul (columns + 1))
length_lines columns (v ∷ R) = go (eqb v 0) (length_lines columns R)
  where
    go : (t : Bool) → length (row_lines columns R) ≤ length R * (columns + 1) → length (cond t (row_lines columns R) (bits columns v ++ newline ++ row_lines columns R)) ≤ suc (length R) * (columns + 1)
    go true h = omega (arith, suc-mul (length R) (columns + 1))
    go false h =
        omega (arith, suc-mul (length R) (columns + 1), length-append (bits columns v ++ newline) (row_lines columns R), length-append (bits columns v) newline, length_bits columns v)

-- a name of k letters and a number
field : (name : List ℕ) (n : ℕ) → length (name ++ decimal n) ≤ length name + 20
field name n = omega (arith, length-append name (decimal n), length_decimal n)

length_line : (i rows columns ranked added : ℕ) → length (entry_line i rows columns ranked added) ≤ 139
unfolding entry_line ascii
length_line i rows columns ranked added =
    let f₁ : List ℕ = ascii "entry " ++ decimal i in
    let f₂ : List ℕ = ascii " rows " ++ decimal rows in
    let f₃ : List ℕ = ascii " columns " ++ decimal columns in
    let f₄ : List ℕ = ascii " rank " ++ decimal ranked in
    let f₅ : List ℕ = ascii " additions " ++ decimal added in
    sum (field (ascii "entry ") i) (field (ascii " rows ") rows) (field (ascii " columns ") columns) (field (ascii " rank ") ranked) (field (ascii " additions ") added)
    (length-append f₁ f₂) (length-append (f₁ ++ f₂) f₃) (length-append (f₁ ++ f₂ ++ f₃) f₄) (length-append (f₁ ++ f₂ ++ f₃ ++ f₄) f₅) (length-append (f₁ ++ f₂ ++ f₃ ++ f₄ ++ f₅) newline)
  where
    sum : {a b c d e ab abc abcd abcde all : ℕ} → a ≤ 26 → b ≤ 26 → c ≤ 29 → d ≤ 26 → e ≤ 31 → ab ≡ a + b → abc ≡ ab + c → abcd ≡ abc + d → abcde ≡ abcd + e → all ≡ abcde + 1 → all ≤ 139
    sum ha hb hc hd he p q r s t = omega arith

-- an entry takes no more than 65 bytes for each of its words, beside its line
length_entry : (i : ℕ) (e : Entry) → length e.matrix ≡ e.rows → Sized 512 e.rows e.columns → length (entry_text i e (rref e.matrix)) ≤ 139 + 65 * body_words e.rows e.columns
unfolding entry_text body_words
length_entry i e sized s =
    let R : List ℕ = rref e.matrix in
    let w : ℕ = words_of e.columns in
    let size : length R ≡ e.rows = (rref_form e.matrix).size ∙ sized in
    let lines : length (row_lines e.columns R) ≤ e.rows * (e.columns + 1) = subst (λ (n : ℕ). length (row_lines e.columns R) ≤ n * (e.columns + 1)) size (length_lines e.columns R) in
    let narrow : e.columns + 1 ≤ 65 * w = omega (arith, s.some) in
    let wide : e.rows * (e.columns + 1) ≤ 65 * (e.rows * w) =
    subst (λ (n : ℕ). e.rows * (e.columns + 1) ≤ n) (sym (mul_assoc e.rows 65 w) ∙ ap (λ (n : ℕ). n * w) (mul_comm e.rows 65) ∙ mul_assoc 65 e.rows w) (mul-le-mul_left e.rows narrow) in
    omega (
      arith,
      length-append (entry_line i e.rows e.columns (rank R) (additions window_columns e.columns R)) (row_lines e.columns R),
      length_line i e.rows e.columns (rank R) (additions window_columns e.columns R),
      lines,
      wide,
    )

-- n entries from entry i on, whose bodies begin at byte p
length_entries : (rule : ℕ → Outcome) (n i j p : ℕ) (b : List ℕ) → entries_checks rule n i p b ≡ Ok tt → 8 * length (entries_text j (entries_from n i b)) + 65 * p ≤ 1112 * n + 65 * length b
unfolding entries_text entries_from entry_at
length_entries rule zero i j p b e =
    let z : p ≡ length b = entries_end rule i p b e in
    omega arith
length_entries rule (suc n) i j p b e =
    let s = entries_step rule n i p b e in
    let E : Entry = entry_at i b in
    let T : List ℕ = entry_text j E (rref E.matrix) in
    let ih : 8 * length (entries_text (j + 1) (entries_from n (i + 1) b)) + 65 * (p + 8 * words_in i b) ≤ 1112 * n + 65 * length b = length_entries rule n (i + 1) (j + 1) (p + 8 * words_in i b) b s.1 in
    let one : length T ≤ 139 + 65 * words_in i b = length_entry j E (length_matrix _ _ _ _ b) s.0.shape in
    omega (arith, length-append T (entries_text (j + 1) (entries_from n (i + 1) b)), ih, one)

-- no report is longer than this
pub report_short : (b : List ℕ) → length (report b) ≤ 544768
unfolding report meaning entries_of meaning_text refused_text ascii
report_short b = go (bundle_checks both_kinds b) refl
  where
    go : (o : Outcome) → o ≡ bundle_checks both_kinds b → length (meaning_text (meant_by (bundle_checks both_kinds b) (entries_from (count_of b) 0 b))) ≤ 544768
    go (Ok t) e =
        let a : Accepted both_kinds b = accepted both_kinds b (sym e) in
        let es : List Entry = entries_from (count_of b) 0 b in
        let T : List ℕ = entries_text 0 es in
        let D : List ℕ = ascii "done " ++ decimal (length es) ++ newline in
        let all : 8 * length T + 65 * head_bytes (count_of b) ≤ 1112 * count_of b + 65 * length b = length_entries both_kinds (count_of b) 0 0 (head_bytes (count_of b)) b a.entries in
        subst (λ (o : Outcome). length (meaning_text (meant_by o es)) ≤ 544768) e
        (omega (arith, length-append T D, length-append (ascii "done " ++ decimal (length es)) newline, field (ascii "done ") (length es), all, a.few, a.short))
    go (Err r) e =
        subst (λ (o : Outcome). length (meaning_text (meant_by o (entries_from (count_of b) 0 b))) ≤ 544768) e
        (omega (arith, length-append (ascii "refused " ++ decimal (number_of r)) newline, field (ascii "refused ") (number_of r)))

-- so the program's buffer holds all of it
pub whole_report : (b out out' : List ℕ) (r : ℕ) → 544768 ≤ length out → Put 0 (report b) out r out' → (r ≡ length (report b)) × (out' ≡ report b ++ drop r out)
whole_report b out out' r l a = put_all (report b) out out' r a (le_trans (report_short b) l)

pub report_ends : (b rest out' : List ℕ) (r : ℕ) → r ≡ length (report b) → out' ≡ report b ++ rest → r ≤ length out'
report_ends b rest out' r e h = omega (arith, e, ap length h ∙ length-append (report b) rest)

pub report_front : (b rest out' : List ℕ) (r : ℕ) → r ≡ length (report b) → out' ≡ report b ++ rest → take r out' ≡ report b
report_front b rest out' r e h = ap₂ take e h ∙ take-append_seam (report b) rest
