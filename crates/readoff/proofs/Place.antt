-- The first row whose pivot stands in given columns, by its number.
use mathlib.Core.Path.{◌≡◌, refl, sym, ap, ◌∙◌, subst}
use mathlib.Core.Logic.{◌⊎◌, inl, inr}
use mathlib.Core.Bool.{true, false, not}
use mathlib.Core.List.{List, [], ◌∷◌}
use Prim.Native.Nat.{ℕ, zero, suc, ◌+◌, ◌*◌, ◌^◌, ◌<◌, ◌≤◌}
use native.Mathlib.Decide.{dec_lt}
use native.Mathlib.Omega.{arith}
use borrow.Author.Tests.{ne_eqb}
use lib.Dec.{T, eqb}
use lib.ListN.{length}
use Rattle.std.specs.Prelude.{Option, None, Some, is_some}
use Rattle.gf2.specs.Rows.{row, part}
use Rattle.gf2.proofs.Pivot.{pivot_not_zero}
use Rattle.words.specs.Words.{Fit, value}
use Rattle.words.proofs.Parts.{length_part}
use Rattle.words.proofs.Rows.{row_end}
use Rattle.words.proofs.Value.{value_lt, part_fits}
use Rattle.images.specs.ReadOff.{inside, pivot_row, has_pivot}
use Rattle.images.proofs.Found.{Inside, inside_cases}
use Rattle.readoff.specs.Steps.{FirstIn}

pub place_row : (a e : ℕ) (R : List ℕ) (i : ℕ) → FirstIn a e R (Some i) → pivot_row a e R ≡ row R i
unfolding pivot_row
place_row a e [] i f = absurd (omega (arith, f.0))
place_row a e (r ∷ R) zero f = rw f.1
place_row a e (r ∷ R) (suc i) f = rw (f.2 0 (omega arith)) (place_row a e R i (omega (arith, f.0), f.1, λ j h. f.2 (suc j) (omega arith)))

place_none : (a e : ℕ) (R : List ℕ) → FirstIn a e R None → pivot_row a e R ≡ 0
unfolding pivot_row
place_none a e [] f = refl
place_none a e (r ∷ R) f = rw (f 0 (omega arith)) (place_none a e R (λ j h. f (suc j) (omega arith)))

-- whether there is one
pub place_found : (a e : ℕ) (R : List ℕ) (r : Option ℕ) → FirstIn a e R r → is_some r ≡ has_pivot a e R
unfolding has_pivot
place_found a e R None f = rw (place_none a e R f)
place_found a e R (Some i) f = go (inside_cases a e (row R i))
  where
    go : ((inside a e (row R i) ≡ true) × Inside a e (row R i)) ⊎ ((inside a e (row R i) ≡ false) × (Inside a e (row R i) → ⊥)) → true ≡ not (eqb (pivot_row a e R) 0)
    go (inl (_, (q, p, _, _))) = rw (place_row a e R i f, ne_eqb (row R i) 0 (pivot_not_zero q (row R i) p))
    go (inr (b, _)) = cc

module _ (a e : ℕ) (R : List ℕ) where
  pub found_none : FirstIn a e R None → T (has_pivot a e R) → ⊥
  found_none f t = subst T (sym (place_found a e R None f)) t

  pub found_some : (i : ℕ) → FirstIn a e R (Some i) → T (has_pivot a e R)
  found_some i f = subst T (place_found a e R (Some i) f) tt

-- ---- row i of a buffer

pub part_narrow : (m : List ℕ) (at w : ℕ) → Fit m → at + w ≤ length m → value (part at w m) < 2 ^ (64 * w)
part_narrow m at w fit h = subst (λ (x : ℕ). value (part at w m) < 2 ^ (64 * x)) (length_part at w m h) (value_lt (part at w m) (part_fits m at w fit))

module _ (m : List ℕ) (w rows i : ℕ) (fit : Fit m) (hm : rows * w ≤ length m) (hi : i < rows) where
  pub row_narrow : value (part (i * w) w m) < 2 ^ (64 * w)
  row_narrow = part_narrow m (i * w) w fit (row_end m w rows i hm hi)

-- ---- the search

pub passed : (a e : ℕ) (R : List ℕ) (i : ℕ) → ((j : ℕ) → j < i → inside a e (row R j) ≡ false) → inside a e (row R i) ≡ false → (j : ℕ) → j < i + 1 → inside a e (row R j) ≡ false
passed a e R i before here j h = go (dec_lt j i)
  where
    go : Dec (j < i) → inside a e (row R j) ≡ false
    go (yes l) = before j l
    go (no l) =
        let s : j ≡ i = omega arith in
        ap (λ (k : ℕ). inside a e (row R k)) s ∙ here
