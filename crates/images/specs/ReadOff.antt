-- What is read off a reduced list of packets R, and off the reduced form of packets with the identity adjoined.
use Rattle.std.specs.Prelude.{◌≡◌, Bool, ◌&&◌, not, cond, List, [], ◌∷◌, ℕ, suc, ◌+◌, ◌/◌, ◌%◌, ◌^◌, ◌≤◌, ◌<◌, eqb}
use Rattle.gf2.specs.Rows.{row, one_if}
use Rattle.gf2.specs.Reduced.{Pivot}
use Rattle.images.specs.Packets.{coefficients, payload}

-- the pivot of r stands in columns a to e - 1: nothing stands left of column a, something left of column e
unfoldable pub inside : ℕ → ℕ → ℕ → Bool
inside a e r = eqb (r % 2 ^ a) 0 && not (eqb (r % 2 ^ e) 0)

-- the first row whose pivot stands there; zero where there is none
unfoldable pub pivot_row : ℕ → ℕ → List ℕ → ℕ
unfolding inside
pivot_row a e [] = 0
pivot_row a e (r ∷ R) = cond (inside a e r) r (pivot_row a e R)

-- what it is: row `at` of R, whose pivot stands there, and no row above it has one there
pub record PivotIn (a e : ℕ) (R : List ℕ) : Type 0 where
  pub at : ℕ
  pub column : ℕ
  pub pivot : Pivot column (row R at)
  pub from : a ≤ column
  pub to : column < e
  pub is : pivot_row a e R ≡ row R at
  pub first : (j q : ℕ) → j < at → Pivot q (row R j) → a ≤ q → q < e → ⊥

-- no row has its pivot there
pub record NoPivotIn (a e : ℕ) (R : List ℕ) : Type 0 where
  pub is : pivot_row a e R ≡ 0
  pub none : (j q : ℕ) → Pivot q (row R j) → a ≤ q → q < e → ⊥

-- some row has its pivot there
unfoldable pub has_pivot : ℕ → ℕ → List ℕ → Bool
unfolding pivot_row
has_pivot a e R = not (eqb (pivot_row a e R) 0)

-- some row has its pivot in the payload
abbrev pub contradictory : ℕ → ℕ → List ℕ → Bool
contradictory n p R = has_pivot n (n + p) R

-- the row whose pivot is j has no other coefficient: block j is known, and its content is that row's payload
unfoldable pub known : ℕ → List ℕ → ℕ → Bool
unfolding pivot_row
known n R j = eqb (coefficients n (pivot_row j (suc j) R)) (2 ^ j)

unfoldable pub content : ℕ → List ℕ → ℕ → ℕ
unfolding pivot_row
content n R j = payload n (pivot_row j (suc j) R)

-- what solving shows in place of an unknown block
abbrev pub unknown_block : ℕ
unknown_block = 0

-- block j as it is shown, where `unknown` stands in place of an unknown one; and a mark for each block: 1 where it is known
unfoldable pub shown : ℕ → ℕ → List ℕ → ℕ → ℕ
unfolding known content
shown unknown n R j = cond (known n R j) (content n R j) unknown

unfoldable pub mark : ℕ → List ℕ → ℕ → ℕ
unfolding known
mark n R j = one_if (known n R j)

-- the sum of the marks, each 1 or 0: how many are set
unfoldable pub marked : List ℕ → ℕ
marked [] = 0
marked (x ∷ xs) = x + marked xs

-- with the identity adjoined: what stands right of the payload in the row with the leftmost pivot among the payload columns. It names packets; zero where no
-- pivot stands there
unfoldable pub named : ℕ → ℕ → List ℕ → ℕ
unfolding pivot_row
named n p R = pivot_row n (n + p) R / 2 ^ (n + p)
