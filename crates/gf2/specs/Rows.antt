-- Rows, matrices, and what can be made of rows by adding them up.
-- A row is a number: column c is its digit of weight 2 ^ c. A matrix is a list of rows, of any length.
use Rattle.std.specs.Prelude.{◌≡◌, Bool, true, false, List, [], ◌∷◌, ℕ, zero, suc, ◌/◌, ◌%◌, ◌^◌, ◌<◌, length, get_or, set, take, drop}
use Rattle.std.specs.Int.Bits.{bit_xor}

infixl 65 ◌⊕◌
-- column c of the row v
abbrev pub bit : ℕ → ℕ → ℕ
bit c v = v / 2 ^ c % 2

-- the sum of two rows: column by column, in the field of two elements
abbrev pub ◌⊕◌ : ℕ → ℕ → ℕ
a ⊕ b = bit_xor a b

-- the digit of a test: 1 where it holds, else 0
abbrev pub one_if : Bool → ℕ
one_if true = 1
one_if false = 0

-- row i; past the last row, zero
abbrev pub row : List ℕ → ℕ → ℕ
row M i = get_or M i 0

-- f 0, f 1, .. f (n - 1)
unfoldable pub tabulate : ℕ → (ℕ → ℕ) → List ℕ
tabulate zero f = []
tabulate (suc n) f = f 0 ∷ tabulate n (λ i. f (suc i))

-- the s rows from row r on
abbrev pub part : ℕ → ℕ → List ℕ → List ℕ
part r s M = take s (drop r M)

-- rows i and k exchanged
abbrev pub swapped : ℕ → ℕ → List ℕ → List ℕ
swapped i k M = set (set M i (row M k)) k (row M i)

-- a matrix of that many rows and columns: no row has a one past the last column
pub record Matrix (rows columns : ℕ) (M : List ℕ) : Type 0 where
  pub size : length M ≡ rows
  pub narrow : (i : ℕ) → row M i < 2 ^ columns

-- the row, if the digit is 1
unfoldable pub pick : ℕ → ℕ → ℕ
pick zero r = 0
pick (suc b) r = r

-- the sum of the rows of L that c names: row i counts if column i of c is 1
unfoldable pub combine : ℕ → List ℕ → ℕ
unfolding pick
combine c [] = 0
combine c (r ∷ L) = pick (c % 2) r ⊕ combine (c / 2) L

-- v is in the row space of L: it is a sum of rows of L
abbrev pub RowSpace : List ℕ → ℕ → Type 0
RowSpace L v = (c : ℕ) × (combine c L ≡ v)

pub record SameRowSpace (L M : List ℕ) : Type 0 where
  pub to : (v : ℕ) → RowSpace L v → RowSpace M v
  pub back : (v : ℕ) → RowSpace M v → RowSpace L v
