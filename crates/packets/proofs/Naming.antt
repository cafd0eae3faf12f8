-- The contradiction call past its checks, by what is read off the reduced packets beside an identity.
use mathlib.Core.Path.{◌≡◌, refl, sym, ap, ◌∙◌, subst}
use mathlib.Core.Logic.{◌⊎◌, inl, inr}
use mathlib.Core.Bool.{Bool, true, false}
use Rattle.std.specs.Prelude.{Result, Ok}
use mathlib.Core.List.{List}
use Prim.Native.Nat.{ℕ, ◌+◌, ◌-◌, ◌*◌, ◌/◌, ◌^◌, ◌<◌, min}
use native.Mathlib.Nat.{add-mul}
use native.Mathlib.Omega.{arith}
use borrow.Author.Tests.{eq-eqb, ne_eqb}
use lib.Dec.{T}
use lib.ListN.{length}
use Rattle.gf2.specs.Rows.{row}
use Rattle.gf2.specs.Reduced.{ReducedForm}
use Rattle.gf2.specs.Inverse.{adjoin}
use Rattle.words.specs.Words.{value, words_of, rows_of, zeroed}
use Rattle.images.specs.ReadOff.{pivot_row, PivotIn, NoPivotIn, has_pivot, named}
use Rattle.images.proofs.Found.{found_cases, found_not_zero}
use Rattle.images.proofs.Named.{found_names, missing_none, none_exactly, named_narrow}
use Rattle.refusals.specs.declared.Unfit.{Unfit}
use Rattle.refusals.specs.Checks.{ContradictionPasses}
use Rattle.beside.specs.Beside.{FitsBeside, Beside, BesideReduced, BesideCleared}
use Rattle.beside.proofs.Room.{room_reduced, room_clean, room_cleared}
use Rattle.readoff.specs.ReadOff.{RightFits, RightRead}
use Rattle.readoff.proofs.Clean.{right_number}
use Rattle.packets.specs.declared.Verdict.{Verdict}
use Rattle.packets.specs.declared.Verdict.TheVariants.{Named, None}
use Rattle.packets.specs.Contradiction.{Judged}

-- a pivot inside the payload, or none
pivot_found : (a e : ℕ) (R : List ℕ) → T (has_pivot a e R) → PivotIn a e R
unfolding has_pivot
pivot_found a e R t = go (found_cases a e R)
  where
    go : NoPivotIn a e R ⊎ PivotIn a e R → PivotIn a e R
    go (inl m) = absurd (rw (eq-eqb (pivot_row a e R) 0 m.is) at t)
    go (inr f) = f

pivot_missing : (a e : ℕ) (R : List ℕ) → (T (has_pivot a e R) → ⊥) → NoPivotIn a e R
unfolding has_pivot
pivot_missing a e R k = go (found_cases a e R)
  where
    go : NoPivotIn a e R ⊎ PivotIn a e R → NoPivotIn a e R
    go (inl m) = m
    go (inr f) = absurd (k (rw (ne_eqb (pivot_row a e R) 0 (found_not_zero a e R f)) tt))

named_is : (n p : ℕ) (R : List ℕ) → named n p R ≡ pivot_row n (n + p) R / 2 ^ (n + p)
unfolding named
named_is n p R = refl

-- what is read tells the answer
abbrev pub verdict_for : Bool → Verdict
verdict_for true = Named
verdict_for false = None

module _ (rows columns n k : ℕ) (m names room room₁ : List ℕ) (passes : ContradictionPasses rows columns n k m (length names) (length room)) (done : Result (Unit {0}) Unfit)
    (b : BesideReduced done rows columns k m room room₁) (l : length room₁ ≡ length room) where
  abbrev L : List ℕ
  L = rows_of (words_of columns) rows m

  abbrev N : List ℕ
  N = rows_of (words_of (columns + rows)) rows room₁

  abbrev p : ℕ
  p = columns - n

  fits : FitsBeside rows columns k m (length room)
  fits = record {
    sized = passes.sized;
    wide = passes.wide;
    window = passes.window;
    roomy = passes.roomy;
    held = omega (arith, passes.exact);
    clean = passes.clean;
  }

  beside : Beside rows columns k m room room₁
  beside = room_reduced rows columns k m room room₁ fits done b

  payload_end : columns ≡ n + p
  payload_end = omega (arith, passes.parted.payload)

  narrow : (i : ℕ) → row L i < 2 ^ (n + p)
  narrow i = subst (λ (x : ℕ). row L i < 2 ^ x) payload_end (passes.clean i)

  form : ReducedForm (adjoin (n + p) L) N
  form = subst (λ (x : ℕ). ReducedForm (adjoin x L) N) payload_end beside.form

  fit : RightFits rows (columns + rows) columns room₁ (length names)
  fit = record {
    matrix = record { wide = passes.wide; held = omega (arith, passes.roomy, add-mul rows (2 ^ k) (words_of (columns + rows))) };
    right = omega arith;
    fitting = omega (arith, passes.fitting);
  }

  pub cleared : (room' : List ℕ) (w : ℕ) → w ≡ words_of (columns + rows) → room' ≡ zeroed 0 (min (rows * w) (length room₁)) room₁ → BesideCleared rows columns k room room'
  cleared room' w ew z =
      z ∙ ap (λ (x : ℕ). zeroed 0 (min (rows * x) (length room₁)) room₁) ew
      ∙ room_cleared rows k (words_of (columns + rows)) room room₁ passes.roomy l beside.behind

  pub judged : (names' : List ℕ) (any : Bool) → RightRead (Ok any) rows (columns + rows) n columns room₁ names names' → Judged rows columns n m names (Ok (verdict_for any)) names'
  judged names' true h =
      let t : PivotIn n (n + p) N = pivot_found n (n + p) N (subst (λ (x : ℕ). T (has_pivot n x N)) payload_end h.0.1) in
      let clean = room_clean rows columns k m room room₁ passes.clean beside in
      let read = right_number rows (columns + rows) room₁ clean n columns names' (omega arith) h.1 in
      let is : value names' ≡ named n p N = read ∙ ap (λ (x : ℕ). pivot_row n x N / 2 ^ x) payload_end ∙ sym (named_is n p N) in
      inl (
        refl,
        record {
          form = N;
          reduced = form;
          names = is;
          among = rw is (named_narrow n p L N narrow form.reduced form.space);
          contradicts = rw is (found_names n p L N narrow form.reduced form.space t);
        },
      )
  judged names' false h =
      let t : NoPivotIn n (n + p) N = pivot_missing n (n + p) N (subst (λ (x : ℕ). T (has_pivot n x N) → ⊥) payload_end h.0.1) in
      inr (refl, (none_exactly n p L N narrow form.reduced form.space).0 (missing_none n p L N narrow form.reduced form.space t), h.1)
