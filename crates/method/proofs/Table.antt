-- Clearing a row by one row of a table of sums: the columns of the pivots say which sum it is, and no other would do.
use mathlib.Core.Path.{◌≡◌, sym, ap, ◌∙◌}
use mathlib.Core.Logic.{◌≢◌, ◌⊎◌, inl, inr}
use mathlib.Core.List.{List, map}
use Prim.Native.Nat.{ℕ, ◌/◌, ◌^◌}
use native.Mathlib.Decide.{ℕ_discrete}
use lib.Bits.{xor_shr, xor_mod}
use Rattle.gf2.specs.Rows.{bit, ◌⊕◌, row, pick, combine, RowSpace}
use Rattle.gf2.specs.Reduced.{Pivot, Reduced}
use Rattle.gf2.proofs.Bits.{bit_of_zero, bit_xor, bit_cases, eq_of_xor}
use Rattle.gf2.proofs.Space.{pick_zero, combine_pow, combine_xor, combine_none, combine_only, combine_map}
use Rattle.gf2.proofs.Reduced.{clean_zero}
use Rattle.gf2.proofs.Products.{map_row}

-- column q of a sum of reduced rows tells whether the row with pivot q is in it
pub bit_at_pivot : (P : List ℕ) → Reduced P → (j q c : ℕ) → Pivot q (row P j) → bit q (combine c P) ≡ bit j c
unfolding pick
bit_at_pivot P hP j q c f = sym (combine_map (bit q) (bit_of_zero q) sum c P) ∙ go (bit_cases j c)
  where
    B : List ℕ
    B = map (bit q) P

    sum : (a b : ℕ) → bit q (a ⊕ b) ≡ bit q a ⊕ bit q b
    sum a b = rw (xor_shr a b q) (xor_mod (a / 2 ^ q) (b / 2 ^ q) 1)

    at : (i : ℕ) → row B i ≡ bit q (row P i)
    at = map_row (bit q) (bit_of_zero q) P

    off : (i : ℕ) → i ≢ j → pick (bit i c) (row B i) ≡ 0
    off i n = rw (at i, hP.alone j i q f n) (pick_zero (bit i c))

    all : bit j c ≡ 0 → (i : ℕ) → Dec (i ≡ j) → pick (bit i c) (row B i) ≡ 0
    all z i (yes e) = rw (e, z)
    all z i (no n) = off i n

    go : (bit j c ≡ 0) ⊎ (bit j c ≡ 1) → combine c B ≡ bit j c
    go (inl z) = combine_none c B (λ i. all z i (ℕ_discrete i j)) ∙ sym z
    go (inr o) = combine_only c j B o off ∙ at j ∙ f.one ∙ sym o

-- what is left of a row when sums of P are added until no pivot's column has a one
pub clear_unique : (P : List ℕ) → Reduced P → (u v : ℕ) → RowSpace P (u ⊕ v) → ((j q : ℕ) → Pivot q (row P j) → bit q u ≡ 0) → ((j q : ℕ) → Pivot q (row P j) → bit q v ≡ 0) → u ≡ v
clear_unique P hP u v s hu hv = eq_of_xor u v (clean_zero P hP (u ⊕ v) s (λ j q f. rw (bit_xor q u v, hu j q f, hv j q f)))

-- two sums whose names differ in digit j differ by row j
pub table_step : (P : List ℕ) (g j : ℕ) → combine (g ⊕ 2 ^ j) P ≡ combine g P ⊕ row P j
table_step P g j = combine_xor g (2 ^ j) P ∙ ap (λ (x : ℕ). combine g P ⊕ x) (combine_pow j P)
