-- The two calls by cases on their checks.
use mathlib.Core.Path.{◌≡◌, refl, sym, ap, ap₂, ◌∙◌, subst}
use Rattle.std.specs.Prelude.{Result, Ok, Err}
use mathlib.Core.List.{List}
use Prim.Native.Nat.{ℕ, ◌+◌, ◌*◌, ◌^◌, ◌≤◌}
use native.Mathlib.Nat.{zero-add}
use native.Mathlib.Omega.{arith}
use lib.ListN.{length}
use Rattle.gf2.specs.Reduced.{rank, pivot_record}
use Rattle.gf2.specs.Additions.{additions}
use Rattle.words.specs.Words.{words_of, rows_of}
use Rattle.words.proofs.Rows.{row_ends}
use Rattle.refusals.specs.declared.Unfit.{Unfit}
use Rattle.refusals.specs.Outcome.{Outcome}
use Rattle.refusals.specs.Checks.{view_checks, ReductionPasses}
use Rattle.refusals.specs.declared.Refusal.{Refusal}
use Rattle.refusals.proofs.Passed.{view_passed}
use Rattle.engine.specs.declared.Eliminated.{Eliminated}
use Rattle.engine.specs.Core.{ReducedTo, TwoSlices, Fits}
use Rattle.matrix.specs.declared.Answer.{Answer}
use Rattle.matrix.specs.Calls.{TableCleared, Reduction}

-- ---- the answer told of what the core found

told_record : (N list : List ℕ) → length list ≡ 512 → list ≡ pivot_record (length list) N → list ≡ pivot_record 512 N
told_record N list l e = e ∙ ap (λ (x : ℕ). pivot_record x N) l

-- with that many known blocks
abbrev pub told : ℕ → Eliminated → List ℕ → Answer
told known e list = record { rank = e.rank; known = known; additions = e.additions; pivots = list }

pub told_answer : (known : ℕ) (counts : List ℕ → ℕ) {L : List ℕ} (N : List ℕ) (e : Eliminated) (list : List ℕ) → length list ≡ 512 → ReducedTo counts L N e list
    → told known e list ≡ record { rank = rank N; known = known; additions = counts N; pivots = pivot_record 512 N }
told_answer known counts N e list l t =
    ap (λ (x : ℕ). record { rank = x; known = known; additions = e.additions; pivots = list }) t.rank_is
    ∙ ap₂ (λ (x : ℕ) (y : List ℕ). record { rank = rank N; known = known; additions = x; pivots = y }) t.additions_are (told_record N list l t.pivots_are)

-- ---- the row view

module _ (rows columns i : ℕ) (m : List ℕ) (o : Outcome) (e : o ≡ view_checks rows columns (length m) i) where
  pub view_ends : (w : ℕ) → o ≡ Ok tt → w ≡ words_of columns → i * w + w ≤ length m
  view_ends w f h =
      let p = view_passed rows columns (length m) i (sym e ∙ f) in
      let l : length m ≡ rows * w = p.exact ∙ ap (λ (x : ℕ). rows * x) (sym h) in
      omega (arith, row_ends i rows w p.below)

-- ---- the reduction, past its checks

module _ (rows columns k : ℕ) (m room : List ℕ) (p : ReductionPasses rows columns k m (length room)) where
  -- the shapes fit, with a list of 512 places
  fits : (list : ℕ) → list ≡ 512 → Fits rows columns k 0 (length room) list m
  fits list l = record {
    shape = record {
      sized = record { few = omega (arith, p.sized.few); some = p.sized.some; wide = p.sized.wide };
      listed = omega (arith, p.sized.few);
      held = omega (arith, p.exact);
      clean = p.clean;
    };
    table = record { window = p.window; roomy = rw (zero-add (2 ^ k)) p.roomy };
  }

  -- so the core takes them
  pub taken : (d : Result Eliminated Unfit) (list m' room' list' : List ℕ) → length list ≡ 512 → TwoSlices d rows columns k m room list m' room' list' → (e : Eliminated) × (d ≡ Ok e)
  taken (Ok e) list m' room' list' l t = (e, refl)
  taken (Err u) list m' room' list' l t = absurd (t.0 (fits (length list) l))

  pub eliminated : (d : Result Eliminated Unfit) (e : Eliminated) (list m' room' list' : List ℕ) → length list ≡ 512 → d ≡ Ok e → TwoSlices d rows columns k m room list m' room' list'
      → ReducedTo (additions k columns) (rows_of (words_of columns) rows m) (rows_of (words_of columns) rows m') e list' × TableCleared columns k room room'
  eliminated d e list m' room' list' l is t =
      let f = subst (λ (x : Result Eliminated Unfit). TwoSlices x rows columns k m room list m' room' list') is t in (f.1.0, f.1.2)

  pub reduced : (d : Result Eliminated Unfit) (e : Eliminated) (list m' room' list' : List ℕ) (r : Result Answer Refusal) → length list ≡ 512 → length list' ≡ 512 → d ≡ Ok e
      → TwoSlices d rows columns k m room list m' room' list' → r ≡ Ok (told 0 e list') → Reduction (additions k columns) rows columns m r m' × TableCleared columns k room room'
  reduced d e list m' room' list' r l l' is t a =
      let N : List ℕ = rows_of (words_of columns) rows m' in
      let f = eliminated d e list m' room' list' l is t in
      (record { reduced = f.0.form; answered = a ∙ ap Ok (told_answer 0 (additions k columns) N e list' l' f.0) }, f.1)
