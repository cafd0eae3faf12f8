-- How far an elimination has come: which columns are done, and, while a window's pivots are sought, what clearing its other rows will give. No public
-- promise cites any of it.
use Rattle.std.specs.Prelude.{◌≡◌, ◌≢◌, List, ℕ, ◌+◌, ◌≤◌, ◌<◌, length, get_or}
use Rattle.gf2.specs.Rows.{bit, ◌⊕◌, row, part, RowSpace}
use Rattle.gf2.specs.Reduced.{Pivot}

-- Columns below c are done: the first r rows have their pivots there, rising, each alone in its column; no other row has a one there.
pub record Upto (c r : ℕ) (M : List ℕ) : Type 0 where
  pub used : (i : ℕ) → i < r → (p : ℕ) × (p < c) × Pivot p (row M i)
  pub rising : (i j p q : ℕ) → i < j → j < r → Pivot p (row M i) → Pivot q (row M j) → p < q
  pub alone : (i j p : ℕ) → i < r → Pivot p (row M i) → j ≢ i → bit p (row M j) ≡ 0
  pub rest : (i x : ℕ) → r ≤ i → x < c → bit x (row M i) ≡ 0

-- Columns below c of n rows are done; cols has the r pivots found, and 65,535 behind them.
pub record Stage (n c r : ℕ) (M cols : List ℕ) : Type 0 where
  pub upto : Upto c r M
  pub pivots : (i : ℕ) → i < r → Pivot (get_or cols i 0) (row M i)
  pub none : (i : ℕ) → r ≤ i → i < length cols → get_or cols i 0 ≡ 65535
  pub room : r ≤ n
  pub whole : n ≤ length cols

-- No pivot is on record yet.
abbrev pub Unset : List ℕ → Type 0
Unset cols = (i : ℕ) → i < length cols → get_or cols i 0 ≡ 65535

-- A window has s pivots so far, in rows r to r + s - 1. M is the matrix as it stands, F as clearing will give it: in F columns below x are done; the
-- window's pivot rows are already as in F; every other row differs from what it will be by a sum of them.
pub record Pending (x r s : ℕ) (M F : List ℕ) : Type 0 where
  pub upto : Upto x (r + s) F
  pub mine : (i : ℕ) → r ≤ i → i < r + s → row F i ≡ row M i
  pub diff : (i : ℕ) → RowSpace (part r s F) (row M i ⊕ row F i)
