-- Entry i of an accepted bundle is found, reduced, and its first rows stand at the front of the words.
use mathlib.Core.Path.{◌≡◌, refl, sym, ap, ap₂, ◌∙◌, subst}
use mathlib.Core.Logic.{◌≢◌}
use mathlib.Core.Bool.{Bool, true, ◌&&◌}
use mathlib.Core.List.{List, ◌++◌}
use Prim.Native.Nat.{ℕ, ◌*◌, ◌^◌, ◌<◌, ◌≤◌}
use native.Mathlib.Nat.{lt_of_lt_of_le, mul-le-mul_right, le_trans}
use native.Mathlib.Omega.{arith}
use lib.Pow.{pow_mono}
use lib.ListN.{length, take, drop, length-append}
use lib.Seq.{get_or-take}
use borrow.Author.Tests.{le-leb}
use Rattle.gf2.specs.Rows.{row}
use Rattle.gf2.specs.Reduced.{Reduced, rank}
use Rattle.gf2.specs.Additions.{additions}
use Rattle.gf2.specs.Rref.{rref}
use Rattle.gf2.proofs.Space.{same_narrow}
use Rattle.gf2.proofs.Rref.{rref_form}
use Rattle.gf2.proofs.Pivots.{rank_used, rank_le}
use Rattle.words.specs.Words.{words_of, rows_of, flat}
use Rattle.words.proofs.Flat.{length_flat, rows_first}
use Rattle.std.specs.Prelude.{Result, Ok, Err}
use Rattle.refusals.specs.declared.Refusal.{Refusal}
use Rattle.bundle.specs.Bundle.{Entry, body_words, count_of, both_kinds, bundle_checks, entry_at, meaning}
use Rattle.bundle.specs.Answers.{Lookup, find}
use Rattle.bundle.proofs.Meaning.{find_entry}
use Rattle.desk.specs.declared.Figures.{Figures}
use Rattle.desk.specs.declared.NotReduced.{NotReduced}
use Rattle.desk.specs.Desk.{window_columns, table_rows, reduced_of, room_for, ReducedBy, ReducedFound, ReducedEntry}
use Rattle.desk.specs.declared.NotReduced.TheVariants.{Refused, Unfit}
use Rattle.desk.proofs.Sound.{Sound, found_sound}
use Rattle.text.specs.Put.{Written}
use Rattle.text.specs.declared.Page.{Page}
use Rattle.text.proofs.Putting.{written_then}
use Rattle.reduce.specs.Report.{entry_line, row_lines, entry_text}
use Rattle.reduce.proofs.Lines.{lines_whole}

-- what has been told of an entry, and what the words then hold
pub record Shown (e : Entry) (t : Result Figures NotReduced) (words' : List ℕ) : Type 0 where
  pub says : t ≡ Ok (reduced_of e)
  pub reduced : Reduced (rref e.matrix)
  pub inside : rank (rref e.matrix) * words_of e.columns ≤ length words'
  pub first : rows_of (words_of e.columns) (rank (rref e.matrix)) words' ≡ take (rank (rref e.matrix)) (rref e.matrix)

module _ (e : Entry) (s : Sound e) where
  M : List ℕ
  M = rref e.matrix

  w : ℕ
  w = words_of e.columns

  room_enough : (words room : List ℕ) → 8192 ≤ length words → 256 ≤ length room → room_for e words room ≡ true
  unfolding room_for body_words
  room_enough words room hw hr =
      let few : e.rows * words_of e.columns ≤ 8192 = omega (arith, mul-le-mul_right (words_of e.columns) s.shape.few, s.shape.wide) in
      ap₂ ◌&&◌ (le-leb (e.rows * words_of e.columns) (length words) (le_trans few hw)) (le-leb (table_rows * words_of e.columns) (length room) (omega (arith, hr, s.shape.wide)))

  narrow : (i : ℕ) → row M i < 2 ^ (64 * w)
  unfolding M w
  narrow i = lt_of_lt_of_le (same_narrow e.columns e.matrix (rref e.matrix) (rref_form e.matrix).space s.clean i) (pow_mono {i = e.columns} {j = 64 * words_of e.columns} (omega arith))

  shown : (words words' : List ℕ) (t : Result Figures NotReduced) → t ≡ Ok (reduced_of e) → words' ≡ flat (words_of e.columns) (rref e.matrix) ++ drop (body_words e.rows e.columns) words → Shown e t words'
  unfolding M w
  shown words words' t et ew =
      let n : ℕ = rank (rref e.matrix) in
      let red : Reduced (rref e.matrix) = (rref_form e.matrix).reduced in
      let D : List ℕ = drop (body_words e.rows e.columns) words in
      let fl : List ℕ = flat (words_of e.columns) (rref e.matrix) in
      record {
        says = et;
        reduced = red;
        inside = subst (λ (l : List ℕ). n * words_of e.columns ≤ length l) (sym ew)
            (omega (arith, length-append fl D, length_flat (words_of e.columns) (rref e.matrix), mul-le-mul_right (words_of e.columns) (rank_le (rref e.matrix) red)));
        first = ap (rows_of (words_of e.columns) n) ew ∙ rows_first (words_of e.columns) n (rref e.matrix) D (rank_le (rref e.matrix) red) narrow;
      }

pub entry_shown : (i : ℕ) (b words room : List ℕ) (t : Result Figures NotReduced) (words' room' : List ℕ) → bundle_checks both_kinds b ≡ Ok tt → i < count_of b → 8192 ≤ length words → 256 ≤ length room
    → ReducedEntry i b words room t words' room' → Shown (entry_at i b) t words'
entry_shown i b words room t words' room' d h hw hr r =
    let f : find i (meaning both_kinds b) ≡ Ok (entry_at i b) = find_entry both_kinds b (bundle_checks both_kinds b) refl d (count_of b) refl i h in
    let s : Sound (entry_at i b) = found_sound both_kinds i b (entry_at i b) f in
    let q : ReducedBy true (entry_at i b) words room t words' room' =
    subst (λ (x : Bool). ReducedBy x (entry_at i b) words room t words' room') (room_enough (entry_at i b) s words room hw hr)
    (subst (λ (F : Lookup). ReducedFound F words room t words' room') f r) in
    shown (entry_at i b) s words words' t q.0 q.1

-- the rows that are then shown are not zero
pub not_zero : (e : Entry) (t : Result Figures NotReduced) (words' : List ℕ) → Shown e t words' → (i : ℕ) → i < rank (rref e.matrix) → row (rows_of (words_of e.columns) (rank (rref e.matrix)) words') i ≢ 0
not_zero e t words' s i h z =
    rank_used (rref e.matrix) s.reduced i h (sym (get_or-take (rank (rref e.matrix)) (rref e.matrix) i 0 h) ∙ ap (λ (L : List ℕ). row L i) (sym s.first) ∙ z)

-- ---- the answer taken apart

module _ (e : Entry) (t : Result Figures NotReduced) (words' : List ℕ) (s : Shown e t words') where
  pub found_not_refused : (x : Refusal) → t ≡ Err (Refused x) → ⊥
  found_not_refused x q = cc (s.says)

  pub found_not_unfit : t ≡ Err Unfit → ⊥
  found_not_unfit q = cc (s.says)

module _ (e : Entry) (t : Result Figures NotReduced) (words' : List ℕ) (s : Shown e t words') (f : Figures) (q : t ≡ Ok f) where
  same : reduced_of e ≡ f
  same = cc (s.says)

  pub rows_lent : (f.rank * words_of f.columns ≤ length words') × ((i : ℕ) → i < f.rank → row (rows_of (words_of f.columns) f.rank words') i ≢ 0)
  unfolding reduced_of
  rows_lent =
      subst (λ (g : Figures). (g.rank * words_of g.columns ≤ length words') × ((i : ℕ) → i < g.rank → row (rows_of (words_of g.columns) g.rank words') i ≢ 0)) same
      (s.inside, not_zero e t words' s)

  pub entry_written : (i : ℕ) (page page₁ page₂ : Page) → Written (entry_line i f.rows f.columns f.rank f.additions) page page₁ → Written (row_lines f.columns (rows_of (words_of f.columns) f.rank words')) page₁ page₂
      → Written (entry_text i e (rref e.matrix)) page page₂
  unfolding entry_text reduced_of
  entry_written i page page₁ page₂ a b =
      let line : entry_line i f.rows f.columns f.rank f.additions ≡ entry_line i e.rows e.columns (rank (rref e.matrix)) (additions window_columns e.columns (rref e.matrix)) =
      ap (λ (g : Figures). entry_line i g.rows g.columns g.rank g.additions) (sym same) in
      let lines : row_lines f.columns (rows_of (words_of f.columns) f.rank words') ≡ row_lines e.columns (rref e.matrix) =
      ap (λ (g : Figures). row_lines g.columns (rows_of (words_of g.columns) g.rank words')) (sym same) ∙ ap (row_lines e.columns) s.first ∙ lines_whole e.columns (rref e.matrix) s.reduced in
      subst (λ (x : List ℕ). Written x page page₂) (ap₂ (λ (x y : List ℕ). x ++ y) line lines) (written_then a b)
