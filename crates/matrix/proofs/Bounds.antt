-- The bounds of an answer: they are those of the reduced matrix that it is told of, and a refused one has no rank.
use mathlib.Core.Path.{◌≡◌, sym, ap, ◌∙◌, subst}
use mathlib.Core.List.{List}
use Rattle.std.specs.Prelude.{Result, Err}
use Prim.Native.Nat.{ℕ, ◌+◌, ◌-◌, ◌^◌, ◌≤◌, ◌<◌}
use native.Mathlib.Omega.{arith}
use lib.ListN.{length, replicate, get_or-replicate, get_or-append}
use lib.Seq.{get_or-append-add}
use Rattle.gf2.specs.Rows.{row}
use Rattle.gf2.specs.Reduced.{Reduced, pivots, rank, pivot_record}
use Rattle.gf2.specs.Additions.{additions}
use Rattle.gf2.proofs.Additions.{additions_bound}
use Rattle.gf2.proofs.Pivot.{pivot_narrow}
use Rattle.gf2.proofs.Pivots.{pivots_list, pivots_rising}
use Rattle.gf2.proofs.Space.{same_narrow}
use Rattle.words.specs.Words.{words_of, rows_of}
use Rattle.refusals.specs.declared.Refusal.{Refusal}
use Rattle.refusals.proofs.Chain.{by_promise}
use Rattle.refusals.proofs.Passed.{reduction_passed}
use Rattle.matrix.specs.declared.Answer.{Answer}
use Rattle.matrix.specs.Calls.{figures, WithinBounds, ReductionPromised}

pub refused_bounds : (columns k : ℕ) (x : Refusal) → WithinBounds columns k (figures (Err x))
refused_bounds columns k x = record {
  few_additions = omega arith;
  rising = λ i j h l. absurd (omega arith);
  below = λ i l. absurd (omega arith);
  behind = λ i h l. get_or-replicate 512 i 65535 0 l;
}

-- the answer told of a reduced matrix without a one past its last column
module _ (columns k : ℕ) (N : List ℕ) (known : ℕ) (reduced : Reduced N) (narrow : (i : ℕ) → row N i < 2 ^ columns) where
  listed : (i : ℕ) → i < rank N → row (pivot_record 512 N) i ≡ row (pivots N) i
  listed i l = get_or-append (pivots N) (replicate (512 - rank N) 65535) 0 i l

  behind : (i : ℕ) → rank N ≤ i → i < 512 → row (pivot_record 512 N) i ≡ 65535
  behind i h l =
      let d : i ≡ rank N + (i - rank N) = omega arith in
      ap (row (pivot_record 512 N)) d ∙ get_or-append-add (pivots N) (replicate (512 - rank N) 65535) (i - rank N) 0
      ∙ get_or-replicate (512 - rank N) (i - rank N) 65535 0 (omega arith)

  pub told_bounds : WithinBounds columns k (record { rank = rank N; known = known; additions = additions k columns N; pivots = pivot_record 512 N })
  told_bounds = record {
    few_additions = additions_bound k columns N reduced;
    rising = λ i j h l. rw (listed i (omega arith), listed j l) (pivots_rising N reduced i j h l);
    below = λ i l. rw (listed i l) (pivot_narrow columns (row (pivots N) i) (row N i) (narrow i) ((pivots_list N reduced).used i l));
    behind = behind;
  }

-- every call of the reduction, refused or not
module _ (rows columns k : ℕ) (m room m' room' : List ℕ) (r : Result Answer Refusal) where
  pub reduction_bounds : ReductionPromised rows columns k m room r m' room' → WithinBounds columns k (figures r)
  reduction_bounds p =
      by_promise p
      (λ x e t. subst (λ (a : Result Answer Refusal). WithinBounds columns k (figures a)) (sym t.0) (refused_bounds columns k x))
      (λ e t. (
      let form = t.0.reduced in
      let N : List ℕ = rows_of (words_of columns) rows m' in
      let clean = (reduction_passed rows columns k m (length room) e).clean in
      let narrow = same_narrow columns (rows_of (words_of columns) rows m) N form.space clean in
      subst (λ (a : Result Answer Refusal). WithinBounds columns k (figures a)) (sym t.0.answered) (told_bounds columns k N 0 form.reduced narrow)
      ))
