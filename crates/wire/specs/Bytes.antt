-- Numbers in bytes, the lowest byte first.
use Rattle.std.specs.Prelude.{List, ℕ, take, drop}
use Rattle.words.specs.Words.{FitBits, of_digits, digits_of}

-- each one is a byte
abbrev pub Bytes : List ℕ → Type 0
Bytes b = FitBits 8 b

-- the number that bytes write
abbrev pub le : List ℕ → ℕ
le b = of_digits 8 b

-- the number in the k bytes from byte p on
unfoldable pub num : ℕ → ℕ → List ℕ → ℕ
num k p b = le (take k (drop p b))

-- the k lowest bytes of a number
unfoldable pub bytes_of : ℕ → ℕ → List ℕ
bytes_of k x = digits_of 8 k x
