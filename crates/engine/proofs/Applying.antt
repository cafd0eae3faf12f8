-- Making the table of the last v words of a window's pivot rows, then clearing by it: where the words stand, and that the rows end cleared.
use mathlib.Core.Path.{◌≡◌, sym, ap, ◌∙◌, subst}
use mathlib.Core.List.{List}
use Prim.Native.Nat.{ℕ, ◌+◌, ◌-◌, ◌*◌, ◌%◌, ◌^◌, ◌<◌, ◌≤◌}
use native.Mathlib.Nat.{mul-le-mul_left, add-mul, mul-le-mul_right}
use native.Mathlib.Omega.{arith}
use lib.ListN.{length, get_or, take}
use Rattle.gf2.specs.Rows.{row, part}
use Rattle.words.specs.Words.{Fit, rows_of}
use Rattle.words.proofs.Rows.{row_ends, length_rows, rows_take}
use Rattle.engine.specs.Stage.{Within, spaced, Table, table_row, added, cleared}
use Rattle.engine.proofs.Tails.{rows_up, added_cleared}

-- rows that agree word by word
pub rows_same : (w n : ℕ) (m m₀ : List ℕ) → take (n * w) m ≡ take (n * w) m₀ → rows_of w n m ≡ rows_of w n m₀
rows_same w n m m₀ e = sym (rows_take w n m) ∙ ap (rows_of w n) e ∙ rows_take w n m₀

pub narrower : (v w k : ℕ) → v ≤ w → k * v ≤ k * w
narrower v w k h = mul-le-mul_left k h

module _ (w v n base r : ℕ) (inside : v ≤ w) (rows : base + r ≤ n) where
  pub pivots_within : Within (base * w + (w - v)) w v r (n * w)
  pivots_within b h =
      let hb : base + b < n = omega arith in
      omega (arith, inside, add-mul base b w, row_ends (base + b) n w hb)

  -- the first pivot row's place
  pub pivots_begin : base * w ≤ n * w
  pivots_begin = mul-le-mul_right w (omega (arith, rows))

  pub sums_clear : (m o t : List ℕ) → n * w ≤ length m → Fit m → ((i : ℕ) → base ≤ i → i < base + r → row (rows_of w n m) i % 2 ^ (64 * (w - v)) ≡ 0) → ((i : ℕ) → i < n → get_or o i 0 < 2 ^ r)
      → Table r (spaced (base * w + (w - v)) w v r m) (row (rows_of v (2 ^ r) t)) → added (w - v) o (table_row v t) (rows_of w n m) ≡ cleared o (part base r (rows_of w n m)) (rows_of w n m)
  sums_clear m o t fits fm low small T =
      let e : w - v + v ≡ w = omega (arith, inside) in
      added_cleared (w - v) v r o t (part base r (rows_of w n m)) (spaced (base * w + (w - v)) w v r m) (rows_of w n m) T
      (rows_up w (w - v) v n m e fits fm base r rows low) (λ i h. small i (subst (λ (q : ℕ). i < q) (length_rows w n m) h))
