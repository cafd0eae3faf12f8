-- The words of an entry, reduced, are those of its reduced form.
use mathlib.Core.Path.{◌≡◌, sym, ap, ◌∙◌, subst}
use mathlib.Core.List.{List}
use Prim.Native.Nat.{ℕ, ◌*◌, ◌^◌, ◌<◌, ◌≤◌}
use native.Mathlib.Omega.{arith}
use lib.Dec.{lit<, lit≤}
use lib.ListN.{length}
use lib.Seq.{take_all}
use Rattle.gf2.specs.Rows.{row}
use Rattle.gf2.specs.Reduced.{ReducedForm}
use Rattle.gf2.specs.Rref.{rref}
use Rattle.gf2.proofs.Reduced.{one_reduced_form}
use Rattle.gf2.proofs.Rref.{rref_form}
use Rattle.words.specs.Words.{Fit, words_of, rows_of, flat}
use Rattle.words.proofs.Flat.{length_flat, flat_rows}
use Rattle.std.specs.Prelude.{Ok}
use Rattle.refusals.specs.Checks.{reduction_checks}
use Rattle.refusals.proofs.Passed.{passes_reduction}
use Rattle.bundle.specs.Bundle.{Entry, body_words}
use Rattle.bundle.proofs.Bodies.{rows_again}
use Rattle.desk.specs.Desk.{window_columns, table_rows}
use Rattle.desk.proofs.Sound.{Sound}

module _ (e : Entry) (s : Sound e) where
  pub passes : (words : List ℕ) (room : ℕ) → words ≡ flat (words_of e.columns) e.matrix → table_rows * words_of e.columns ≤ room → reduction_checks e.rows e.columns window_columns words room ≡ Ok tt
  passes words room ew er =
      let rows : rows_of (words_of e.columns) e.rows words ≡ e.matrix = ap (rows_of (words_of e.columns) e.rows) ew ∙ rows_again e s.size s.clean in
      passes_reduction e.rows e.columns window_columns words room (record {
        sized = s.shape;
        window = record { least = lit< tt; most = lit≤ tt };
        exact = ap length ew ∙ length_flat (words_of e.columns) e.matrix ∙ ap (λ (n : ℕ). n * words_of e.columns) s.size;
        roomy = er;
        clean = λ i. subst (λ (M : List ℕ). row M i < 2 ^ e.columns) (sym rows) (s.clean i);
      })

  module _ (words words' : List ℕ) (ew : words ≡ flat (words_of e.columns) e.matrix) (f : ReducedForm (rows_of (words_of e.columns) e.rows words) (rows_of (words_of e.columns) e.rows words')) where
    pub form_rows : rows_of (words_of e.columns) e.rows words' ≡ rref e.matrix
    form_rows = one_reduced_form (subst (λ (M : List ℕ). ReducedForm M (rows_of (words_of e.columns) e.rows words')) (ap (rows_of (words_of e.columns) e.rows) ew ∙ rows_again e s.size s.clean) f) (rref_form e.matrix)

    pub form_words : length words' ≡ body_words e.rows e.columns → Fit words' → words' ≡ flat (words_of e.columns) (rref e.matrix)
    unfolding body_words
    form_words l fit =
        sym (take_all (e.rows * words_of e.columns) words' (omega (arith, l)))
        ∙ sym (flat_rows (words_of e.columns) e.rows words' fit (omega (arith, l)))
        ∙ ap (flat (words_of e.columns)) form_rows
