-- Rows that stand in a buffer, by the list of numbers that they hold.
use mathlib.Core.Path.{◌≡◌, sym, ap, ◌∙◌}
use mathlib.Core.List.{List}
use Prim.Native.Nat.{ℕ, ◌+◌, ◌*◌, ◌≤◌, ◌<◌}
use native.Mathlib.Omega.{arith}
use lib.ListN.{length}
use Rattle.gf2.specs.Rows.{row, part}
use Rattle.words.specs.Words.{value, rows_of}
use Rattle.words.proofs.Rows.{length_rows, row_end, get_or_rows}

module _ (w n i : ℕ) (m R : List ℕ) (e : rows_of w n m ≡ R) (h : i < length R) where
  below : i < n
  below = omega (arith, ap length e, length_rows w n m)

  pub held_end : n * w ≤ length m → i * w + w ≤ length m
  held_end k = row_end m w n i k below

  pub held_row : value (part (i * w) w m) ≡ row R i
  held_row = sym (get_or_rows w n m i below) ∙ ap (λ (L : List ℕ). row L i) e
