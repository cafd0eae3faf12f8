-- The reduced row echelon form.
use Rattle.std.specs.Prelude.{◌≡◌, ◌≢◌, Bool, true, false, List, [], ◌∷◌, ◌++◌, ℕ, zero, suc, ◌-◌, ◌/◌, ◌%◌, ◌≤◌, ◌<◌, eqb, length, get_or, replicate}
use Rattle.gf2.specs.Rows.{bit, row, SameRowSpace}

-- column p holds the first one of the row v: p is its pivot
pub record Pivot (p v : ℕ) : Type 0 where
  pub one : bit p v ≡ 1
  pub before : (c : ℕ) → c < p → bit c v ≡ 0

-- Below a zero row stand only zero rows; pivots move to the right from row to row; the column of a pivot has no further one.
pub record Reduced (M : List ℕ) : Type 0 where
  pub last : (i j : ℕ) → i < j → row M i ≡ 0 → row M j ≡ 0
  pub rising : (i j p q : ℕ) → i < j → Pivot p (row M i) → Pivot q (row M j) → p < q
  pub alone : (i j p : ℕ) → Pivot p (row M i) → j ≢ i → bit p (row M j) ≡ 0

-- R is the reduced form of L: reduced, of the same size, with the same row space
pub record ReducedForm (L R : List ℕ) : Type 0 where
  pub size : length R ≡ length L
  pub reduced : Reduced R
  pub space : SameRowSpace L R

-- ---- the pivots of a matrix, top down, and their number

-- the trailing zeros of v, whose last digit is b, among n digits
unfoldable pub zeros_in : ℕ → ℕ → ℕ → ℕ
zeros_in zero b v = 0
zeros_in (suc n) zero v = suc (zeros_in n (v / 2 % 2) (v / 2))
zeros_in (suc n) (suc b) v = 0

-- the pivot of a row that is not zero
unfoldable pub pivot : ℕ → ℕ
unfolding zeros_in
pivot v = zeros_in v (v % 2) v

-- a further pivot, unless the row is zero
unfoldable pub add_pivot : Bool → ℕ → List ℕ → List ℕ
add_pivot true p ps = ps
add_pivot false p ps = p ∷ ps

unfoldable pub pivots : List ℕ → List ℕ
unfolding add_pivot pivot
pivots [] = []
pivots (r ∷ M) = add_pivot (eqb r 0) (pivot r) (pivots M)

abbrev pub rank : List ℕ → ℕ
rank M = length (pivots M)

-- the pivots in a list of len places, 65,535 behind them
abbrev pub pivot_record : ℕ → List ℕ → List ℕ
pivot_record len M = pivots M ++ replicate (len - rank M) 65535

-- ps are the pivots of the first rows of R, and the other rows are zero
pub record PivotList (R ps : List ℕ) : Type 0 where
  pub used : (i : ℕ) → i < length ps → Pivot (get_or ps i 0) (row R i)
  pub rest : (i : ℕ) → length ps ≤ i → row R i ≡ 0

-- each number is greater than those before it
abbrev pub Rising : List ℕ → Type 0
Rising ps = (i j : ℕ) → i < j → j < length ps → get_or ps i 0 < get_or ps j 0
