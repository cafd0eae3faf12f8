-- Texts as lists of bytes: letters, decimal numbers, rows of zeros and ones.
use Rattle.std.specs.Prelude.{cond, List, [], ◌∷◌, ◌++◌, ℕ, zero, suc, ◌+◌, ◌/◌, ◌%◌, ltb}
use Prim.Native.Char.{code}
use Prim.Native.String.{String, [] as none, ◌∷◌ as ◌then◌}

-- the bytes of a text in ASCII
unfoldable pub ascii : String → List ℕ
ascii none = []
ascii (c then s) = code c ∷ ascii s

-- the end of a line
abbrev pub newline : List ℕ
newline = 10 ∷ []

-- a number of at most d digits in the fewest of them: in decimal, without leading zeros
unfoldable pub shortest : ℕ → ℕ → List ℕ
shortest zero n = []
shortest (suc d) n = cond (ltb n 10) ((48 + n) ∷ []) (shortest d (n / 10) ++ ((48 + n % 10) ∷ []))

-- a number of 64 bits has at most 20 digits
unfoldable pub decimal : ℕ → List ℕ
unfolding shortest
decimal n = shortest 20 n

-- the columns of a row as zeros and ones, column 0 first
unfoldable pub bits : ℕ → ℕ → List ℕ
bits zero v = []
bits (suc columns) v = (48 + v % 2) ∷ bits columns (v / 2)
