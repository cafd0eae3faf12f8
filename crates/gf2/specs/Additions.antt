-- Table additions, counted from the pivots of a reduced matrix alone.
use Rattle.std.specs.Prelude.{◌≡◌, refl, ◌&&◌, List, [], ◌∷◌, ℕ, zero, suc, ◌+◌, ◌-◌, ◌*◌, ◌/◌, ◌^◌, min, leb, ltb}
use Rattle.gf2.specs.Rows.{one_if}
use Rattle.gf2.specs.Reduced.{pivots}

-- how many windows of k columns there are; the last may be narrower
abbrev pub windows : ℕ → ℕ → ℕ
windows k columns = (columns + (k - 1)) / k

-- how many of the numbers stand in columns a to e - 1
unfoldable pub within : ℕ → ℕ → List ℕ → ℕ
within a e [] = 0
within a e (p ∷ ps) = one_if (leb a p && ltb p e) + within a e ps

-- the pivots in window j: columns j * k to j * k + k - 1, as far as there are columns
unfoldable pub in_window : ℕ → ℕ → List ℕ → ℕ → ℕ
unfolding within
in_window k columns ps j = within (j * k) (min (j * k + k) columns) ps

-- over the first m windows, the sum of what a window with r pivots costs
unfoldable pub total_to : (ℕ → ℕ) → ℕ → ℕ → List ℕ → ℕ → ℕ
unfolding in_window
total_to cost k columns ps zero = 0
total_to cost k columns ps (suc j) = total_to cost k columns ps j + cost (in_window k columns ps j)

abbrev pub total : (ℕ → ℕ) → ℕ → ℕ → List ℕ → ℕ
total cost k columns ps = total_to cost k columns ps (windows k columns)

-- the additions that make a table of all 2 ^ r sums of r rows
unfoldable pub table_additions : ℕ → ℕ
table_additions r = 2 ^ r - 1

-- ten rows take 1,023
pub ten_rows : table_additions 10 ≡ 1023
unfolding table_additions
ten_rows = refl

-- the table additions of reducing to R by windows of k columns
abbrev pub additions : ℕ → ℕ → List ℕ → ℕ
additions k columns R = total table_additions k columns (pivots R)
