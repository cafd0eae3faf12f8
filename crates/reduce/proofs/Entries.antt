-- The text of the entries, one entry more at a time; it is that of THE reduced form of each.
use mathlib.Core.Path.{◌≡◌, refl, sym, ap, ap₂, ◌∙◌}
use mathlib.Core.List.{List, ◌++◌, append_assoc, append-nil}
use Prim.Native.Nat.{ℕ, zero, suc, ◌+◌}
use native.Mathlib.Numerals.{add-one}
use native.Mathlib.Omega.{arith}
use Rattle.gf2.specs.Reduced.{ReducedForm}
use Rattle.gf2.specs.Rref.{rref}
use Rattle.gf2.proofs.Reduced.{one_reduced_form}
use Rattle.gf2.proofs.Rref.{rref_form}
use Rattle.refusals.specs.declared.Refusal.{Refusal}
use Rattle.std.specs.Prelude.{Ok, Err}
use Rattle.bundle.specs.Bundle.{Entry, count_of, both_kinds, bundle_checks, entry_at, entries_from, entries_of, meaning}
use Rattle.bundle.specs.Answers.{counted_in}
use Rattle.bundle.proofs.Meaning.{count_from}
use Rattle.bundle.proofs.Exactly.{means, refused_means}
use Rattle.text.specs.Text.{ascii, newline, decimal}
use Rattle.desk.specs.Desk.{refused_text}
use Rattle.reduce.specs.Report.{entry_text, entries_text, meaning_text, report}

-- THEOREM: how `rref` finds the form does not show: any reduced form of an entry gives the same text
pub any_form : (i : ℕ) (e : Entry) (R : List ℕ) → ReducedForm e.matrix R → entry_text i e R ≡ entry_text i e (rref e.matrix)
any_form i e R f = ap (entry_text i e) (one_reduced_form f (rref_form e.matrix))

-- entry j + n after n entries from entry j on, whose numbers in the text begin at i
text_more : (n i j : ℕ) (b : List ℕ)
    → entries_text i (entries_from (suc n) j b) ≡ entries_text i (entries_from n j b) ++ entry_text (i + n) (entry_at (j + n) b) (rref (entry_at (j + n) b).matrix)
unfolding entries_text entries_from
text_more zero i j b =
    let a : i ≡ i + 0 = omega arith in
    let c : j ≡ j + 0 = omega arith in
    append-nil (entry_text i (entry_at j b) (rref (entry_at j b).matrix))
    ∙ ap₂ (λ (x y : ℕ). entry_text x (entry_at y b) (rref (entry_at y b).matrix)) a c
text_more (suc n) i j b =
    let a : i + 1 + n ≡ i + suc n = omega arith in
    let c : j + 1 + n ≡ j + suc n = omega arith in
    let T : List ℕ = entry_text i (entry_at j b) (rref (entry_at j b).matrix) in
    ap (λ (l : List ℕ). T ++ l) (text_more n (i + 1) (j + 1) b ∙ ap₂ (λ (x y : ℕ). entries_text (i + 1) (entries_from n (j + 1) b) ++ entry_text x (entry_at y b) (rref (entry_at y b).matrix)) a c)
    ∙ sym (append_assoc T (entries_text (i + 1) (entries_from n (j + 1) b)) (entry_text (i + suc n) (entry_at (j + suc n) b) (rref (entry_at (j + suc n) b).matrix)))

pub next_entry : (i : ℕ) (b : List ℕ)
    → entries_text 0 (entries_from i 0 b) ++ entry_text i (entry_at i b) (rref (entry_at i b).matrix) ≡ entries_text 0 (entries_from (i + 1) 0 b)
next_entry i b =
    let z : 0 + i ≡ i = omega arith in
    sym (ap (λ (n : ℕ). entries_text 0 (entries_from n 0 b)) (add-one i) ∙ text_more i 0 0 b
    ∙ ap (λ (k : ℕ). entries_text 0 (entries_from i 0 b) ++ entry_text k (entry_at k b) (rref (entry_at k b).matrix)) z)

-- ---- the whole

pub report_refused : (b : List ℕ) (r : Refusal) → counted_in (meaning both_kinds b) ≡ Err r → refused_text r ≡ report b
unfolding report meaning_text
report_refused b r e = sym (ap meaning_text (refused_means both_kinds b r e))

pub report_entries : (b : List ℕ) (n : ℕ) → bundle_checks both_kinds b ≡ Ok tt → count_of b ≡ n → entries_text 0 (entries_from n 0 b) ++ (ascii "done " ++ decimal n ++ newline) ≡ report b
unfolding report meaning_text entries_of
report_entries b n d e =
    sym (ap meaning_text (means both_kinds b (entries_from (count_of b) 0 b) d refl)
    ∙ ap₂ (λ (k m : ℕ). entries_text 0 (entries_from k 0 b) ++ (ascii "done " ++ decimal m ++ newline)) e (count_from (count_of b) 0 b ∙ e))
