-- The row whose pivot stands in given columns: what it is, that there is none, and that it follows from the rows.
use mathlib.Core.Path.{◌≡◌, refl, sym, ◌∙◌}
use mathlib.Core.Logic.{◌≢◌, ◌⊎◌, inl, inr}
use mathlib.Core.Bool.{Bool, true, false, ◌&&◌, not}
use mathlib.Core.List.{List, [], ◌∷◌}
use Prim.Native.Nat.{ℕ, zero, suc, ◌%◌, ◌^◌, ◌≤◌, ◌<◌}
use native.Mathlib.Decide.{ℕ_discrete, dec_lt}
use native.Mathlib.Nat.{zero-mod, mod-lt}
use native.Mathlib.Omega.{arith}
use borrow.Author.Tests.{eqb-true, eqb-false}
use lib.Dec.{eqb}
use lib.Pow.{pow_pos}
use Rattle.gf2.specs.Rows.{row, SameRowSpace}
use Rattle.gf2.specs.Reduced.{Pivot, Reduced}
use Rattle.gf2.proofs.Pivot.{pivot_cases, pivot_not_zero, no_pivot, pivot_unique, pivot_cut, pivot_uncut, pivot_narrow, cut_zero, zero_cut}
use Rattle.gf2.proofs.Reduced.{same_reduced_rows}
use Rattle.images.specs.ReadOff.{inside, pivot_row, PivotIn, NoPivotIn}

-- ---- the test: nothing left of column a, something left of column e

abbrev pub Inside : ℕ → ℕ → ℕ → Type 0
Inside a e r = (q : ℕ) × Pivot q r × (a ≤ q) × (q < e)

pub inside_cases : (a e r : ℕ) → ((inside a e r ≡ true) × Inside a e r) ⊎ ((inside a e r ≡ false) × (Inside a e r → ⊥))
unfolding inside
inside_cases a e r = go (eqb (r % 2 ^ a) 0) (eqb (r % 2 ^ e) 0) refl refl
  where
    go : (x y : Bool) → eqb (r % 2 ^ a) 0 ≡ x → eqb (r % 2 ^ e) 0 ≡ y → ((x && not y ≡ true) × Inside a e r) ⊎ ((x && not y ≡ false) × (Inside a e r → ⊥))
    go false y ex ey = inr (refl, λ t. eqb-false (r % 2 ^ a) 0 ex (cut_zero a t.0 r t.2 t.1))
    go true true ex ey = inr (refl, λ t. pivot_not_zero t.0 (r % 2 ^ e) (pivot_cut e t.0 r t.3 t.1) (eqb-true (r % 2 ^ e) 0 ey))
    go true false ex ey = inl (refl, at (pivot_cases (r % 2 ^ e)))
      where
        at : (r % 2 ^ e ≡ 0) ⊎ ((q : ℕ) × Pivot q (r % 2 ^ e)) → Inside a e r
        at (inl z) = absurd (eqb-false (r % 2 ^ e) 0 ey z)
        at (inr (q, f)) =
            let l : q < e = pivot_narrow e q (r % 2 ^ e) (mod-lt r (pow_pos e)) f in
            let g : Pivot q r = pivot_uncut e q r l f in
            (q, g, zero_cut a q r (eqb-true (r % 2 ^ a) 0 ex) g, l)

pub found_cases : (a e : ℕ) (R : List ℕ) → NoPivotIn a e R ⊎ PivotIn a e R
unfolding pivot_row
found_cases a e [] = inl (record { is = refl; none = λ j q f h l. no_pivot q f })
found_cases a e (r ∷ R) = go (inside_cases a e r) (found_cases a e R)
  where
    go : ((inside a e r ≡ true) × Inside a e r) ⊎ ((inside a e r ≡ false) × (Inside a e r → ⊥)) → NoPivotIn a e R ⊎ PivotIn a e R → NoPivotIn a e (r ∷ R) ⊎ PivotIn a e (r ∷ R)
    go (inl (b, (q, f, h, l))) _ =
        inr (record { at = 0; column = q; pivot = f; from = h; to = l; is = rw b; first = λ j q m g x y. absurd (omega arith) })
    go (inr (b, k)) (inl m) = inl (record { is = rw b m.is; none = none })
      where
        none : (j q : ℕ) → Pivot q (row (r ∷ R) j) → a ≤ q → q < e → ⊥
        none zero q f h l = k (q, f, h, l)
        none (suc j) q f h l = m.none j q f h l
    go (inr (b, k)) (inr t) =
        inr (record { at = suc t.at; column = t.column; pivot = t.pivot; from = t.from; to = t.to; is = rw b t.is; first = first })
      where
        first : (j q : ℕ) → j < suc t.at → Pivot q (row (r ∷ R) j) → a ≤ q → q < e → ⊥
        first zero q m f h l = k (q, f, h, l)
        first (suc j) q m f h l = t.first j q (omega arith) f h l

-- in a reduced list its pivot is the first one there
pub found_leftmost : (a e : ℕ) (R : List ℕ) → Reduced R → (t : PivotIn a e R) → (j q : ℕ) → Pivot q (row R j) → a ≤ q → q < e → t.column ≤ q
found_leftmost a e R hR t j q f h l = go (dec_lt j t.at) (ℕ_discrete j t.at)
  where
    go : Dec (j < t.at) → Dec (j ≡ t.at) → t.column ≤ q
    go (yes m) _ = absurd (t.first j q m f h l)
    go (no m) (yes i) = omega (arith, pivot_unique q t.column (row R t.at) (rw i at f) t.pivot)
    go (no m) (no i) = omega (arith, hR.rising t.at j t.column q (omega arith) t.pivot f)

-- a found row is not zero
pub found_not_zero : (a e : ℕ) (R : List ℕ) → PivotIn a e R → pivot_row a e R ≢ 0
found_not_zero a e R t z = pivot_not_zero t.column (row R t.at) t.pivot (sym t.is ∙ z)

-- ---- it follows from the rows, and so from the row space

zero_outside : (a e : ℕ) → inside a e 0 ≡ false
unfolding inside
zero_outside a e = rw (zero-mod (2 ^ a), zero-mod (2 ^ e))

pub rows_pivot_row : (a e : ℕ) (R S : List ℕ) → ((i : ℕ) → row R i ≡ row S i) → pivot_row a e R ≡ pivot_row a e S
unfolding pivot_row
rows_pivot_row a e [] [] h = refl
rows_pivot_row a e [] (s ∷ S) h = rw (← (h 0), zero_outside a e) (rows_pivot_row a e [] S (λ i. h (suc i)))
rows_pivot_row a e (r ∷ R) [] h = rw (h 0, zero_outside a e) (rows_pivot_row a e R [] (λ i. h (suc i)))
rows_pivot_row a e (r ∷ R) (s ∷ S) h = rw (h 0, rows_pivot_row a e R S (λ i. h (suc i)))

pub same_pivot_row : (a e : ℕ) (R S : List ℕ) → Reduced R → Reduced S → SameRowSpace R S → pivot_row a e R ≡ pivot_row a e S
same_pivot_row a e R S hR hS same = rows_pivot_row a e R S (same_reduced_rows R S hR hS same)
