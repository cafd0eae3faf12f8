-- Products, the identity, inverses, and a matrix with the identity adjoined on its right.
use Rattle.std.specs.Prelude.{◌≡◌, Bool, true, false, ◌&&◌, List, [], ◌∷◌, map, ℕ, ◌+◌, ◌/◌, ◌%◌, ◌^◌, eqb, length}
use Rattle.gf2.specs.Rows.{◌⊕◌, row, tabulate, Matrix, combine}

abbrev pub identity : ℕ → List ℕ
identity n = tabulate n (λ i. 2 ^ i)

-- row i of the product is the sum of the rows of B that row i of A names
abbrev pub product : List ℕ → List ℕ → List ℕ
product A B = map (λ a. combine a B) A

-- X is the inverse of the n x n matrix A, from both sides
pub record Inverse (n : ℕ) (A X : List ℕ) : Type 0 where
  pub square : Matrix n n X
  pub left : product X A ≡ identity n
  pub right : product A X ≡ identity n

-- L with the identity on its right, from column w on
unfoldable pub adjoin : ℕ → List ℕ → List ℕ
unfolding tabulate
adjoin w L = tabulate (length L) (λ i. row L i ⊕ 2 ^ (w + i))

-- columns 0 to w - 1, and the columns from w on
abbrev pub left_of : ℕ → List ℕ → List ℕ
left_of w M = map (λ v. v % 2 ^ w) M

abbrev pub right_of : ℕ → List ℕ → List ℕ
right_of w M = map (λ v. v / 2 ^ w) M

-- the same rows
unfoldable pub same : List ℕ → List ℕ → Bool
same [] [] = true
same [] (y ∷ M) = false
same (x ∷ L) [] = false
same (x ∷ L) (y ∷ M) = eqb x y && same L M

-- M begins with the n x n identity
abbrev pub begins_with_identity : ℕ → List ℕ → Bool
begins_with_identity n M = same (left_of n M) (identity n)
