-- What is read off rows without a one past their last column is no wider than what it is read from.
use mathlib.Core.Path.{◌≡◌, subst}
use mathlib.Core.Logic.{◌⊎◌, inl, inr}
use mathlib.Core.Bool.{Bool, true, false, cond}
use mathlib.Core.List.{List}
use Prim.Native.Nat.{ℕ, suc, ◌+◌, ◌-◌, ◌/◌, ◌^◌, ◌≤◌, ◌<◌}
use native.Mathlib.Omega.{arith}
use lib.Pow.{pow_pos, shr_lt}
use Rattle.gf2.specs.Rows.{row}
use Rattle.images.specs.ReadOff.{pivot_row, PivotIn, NoPivotIn, known, content, shown}
use Rattle.images.proofs.Found.{found_cases}

-- the columns from e on
pub right_narrow : (columns e x : ℕ) → e ≤ columns → x < 2 ^ columns → x / 2 ^ e < 2 ^ (columns - e)
right_narrow columns e x h l =
    let s : columns ≡ (columns - e) + e = omega arith in
    shr_lt (columns - e) e (subst (λ (k : ℕ). x < 2 ^ k) s l)

module _ (columns : ℕ) (R : List ℕ) (narrow : (i : ℕ) → row R i < 2 ^ columns) where
  -- a row that is found is a row of the list
  pub found_narrow : (a e : ℕ) → pivot_row a e R < 2 ^ columns
  found_narrow a e = go (found_cases a e R)
    where
      go : NoPivotIn a e R ⊎ PivotIn a e R → pivot_row a e R < 2 ^ columns
      go (inl t) = rw t.is (pow_pos columns)
      go (inr t) = rw t.is (narrow t.at)

  pub shown_narrow : (unknown n : ℕ) → n ≤ columns → unknown < 2 ^ (columns - n) → (j : ℕ) → shown unknown n R j < 2 ^ (columns - n)
  unfolding shown content
  shown_narrow unknown n h small j = go (known n R j)
    where
      go : (b : Bool) → cond b (content n R j) unknown < 2 ^ (columns - n)
      go true = right_narrow columns n (pivot_row j (suc j) R) h (found_narrow j (suc j))
      go false = small
