-- A list with the identity adjoined on its right, from column w on: a sum of its rows names on the right the rows whose sum stands on the left.
use mathlib.Core.Path.{◌≡◌, refl, ap, ap₂, ◌∙◌}
use mathlib.Core.List.{List}
use Prim.Native.Nat.{ℕ, ◌+◌, ◌*◌, ◌/◌, ◌%◌, ◌^◌, ◌<◌}
use native.Mathlib.Omega.{arith}
use lib.Bits.{xor_comm, xor_lt, xor_shifted}
use lib.ListN.{length}
use lib.Pow.{pow_pos, pow-lt, pow_mono, high, low}
use Rattle.gf2.specs.Rows.{◌⊕◌, row, combine, RowSpace}
use Rattle.gf2.specs.Inverse.{adjoin}
use Rattle.gf2.proofs.Space.{combine_low, space_narrow}
use Rattle.gf2.proofs.Products.{tabulate_length, tabulate_each, tabulate_rows, combine_tabulate_xor, combine_units}

module _ (w : ℕ) (L : List ℕ) (narrow : (i : ℕ) → row L i < 2 ^ w) where
  pub combine_narrow : (c : ℕ) → combine c L < 2 ^ w
  combine_narrow c = space_narrow w L narrow (combine c L) (c, refl)

  -- a sum of rows: on the right which they are, on the left their sum
  combine_adjoin : (c : ℕ) → combine c (adjoin w L) ≡ (c % 2 ^ length L) * 2 ^ w + combine c L
  unfolding adjoin
  combine_adjoin c =
      combine_tabulate_xor (length L) (row L) (λ i. 2 ^ (w + i)) c
      ∙ ap₂ (λ (x y : ℕ). x ⊕ y) (ap (combine c) (tabulate_rows L)) (combine_units w (length L) c)
      ∙ xor_comm (combine c L) ((c % 2 ^ length L) * 2 ^ w)
      ∙ xor_shifted (c % 2 ^ length L) w (combine c L) (combine_narrow c)

  pub adjoin_left : (c : ℕ) → combine c (adjoin w L) % 2 ^ w ≡ combine c L
  adjoin_left c = rw (combine_adjoin c) (low (c % 2 ^ length L) w (combine_narrow c))

  pub adjoin_right : (c : ℕ) → combine c (adjoin w L) / 2 ^ w ≡ c % 2 ^ length L
  adjoin_right c = rw (combine_adjoin c) (high (c % 2 ^ length L) w (combine_narrow c))

  -- so each member of the row space names, on its right, rows whose sum stands on its left
  pub adjoin_names : (v : ℕ) → RowSpace (adjoin w L) v → combine (v / 2 ^ w) L ≡ v % 2 ^ w
  adjoin_names v (c, e) = rw (← e, adjoin_right c, adjoin_left c) (combine_low c L)

  pub adjoin_narrow : (i : ℕ) → row (adjoin w L) i < 2 ^ (w + length L)
  unfolding adjoin
  adjoin_narrow = tabulate_each (λ (v : ℕ). v < 2 ^ (w + length L)) (length L) (λ i. row L i ⊕ 2 ^ (w + i)) (pow_pos (w + length L))
      (λ i l. xor_lt (w + length L) (row L i) (2 ^ (w + i)) (omega (arith, narrow i, pow_mono {i = w} {j = w + length L} (omega arith))) (pow-lt (omega arith)))

pub adjoin_length : (w : ℕ) (L : List ℕ) → length (adjoin w L) ≡ length L
unfolding adjoin
adjoin_length w L = tabulate_length (length L) (λ i. row L i ⊕ 2 ^ (w + i))
