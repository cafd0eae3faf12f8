-- Words of 64 bits, and the rows that a buffer of words holds. Everything is said for any number of words a row.
use Rattle.std.specs.Prelude.{◌≡◌, refl, Bool, true, ◌&&◌, List, [], ◌∷◌, ◌++◌, ℕ, zero, suc, ◌+◌, ◌*◌, ◌/◌, ◌%◌, ◌^◌, ◌<◌, ltb, leb, length, get_or, replicate, take, drop}
use Rattle.std.specs.Int.Bits.{bit_xor}
use Rattle.std.proofs.Math.Seq.{paste}
use Rattle.std.specs.Borrow.{Bor}
use Rattle.gf2.specs.Rows.{row}

-- the words that a row of that many columns takes
abbrev pub words_of : ℕ → ℕ
words_of columns = (columns + 63) / 64

-- 64 columns take one word, 65 take two
pub sixty_four : words_of 64 ≡ 1
sixty_four = refl

pub sixty_five : words_of 65 ≡ 2
sixty_five = refl

-- ---- numbers in digits of b bits, the lowest first: words are digits of 64 bits, bytes of 8

-- each digit fits b bits
abbrev pub FitBits : ℕ → List ℕ → Type 0
FitBits b xs = (i : ℕ) → get_or xs i 0 < 2 ^ b

-- the number that digits write
abbrev pub of_digits : ℕ → List ℕ → ℕ
of_digits b [] = 0
of_digits b (x ∷ xs) = of_digits b xs * 2 ^ b + x

-- the n lowest digits of a number
abbrev pub digits_of : ℕ → ℕ → ℕ → List ℕ
digits_of b zero v = []
digits_of b (suc n) v = v % 2 ^ b ∷ digits_of b n (v / 2 ^ b)

-- ---- words

-- each word fits 64 bits
abbrev pub Fit : List ℕ → Type 0
Fit ws = FitBits 64 ws

-- a slice after a call: as long as before, and each word fits 64 bits
pub record Slice (m m' : List ℕ) : Type 0 where
  pub size : length m' ≡ length m
  pub fit : Fit m'

-- x is a part of the buffer m, and begins at word `at` of it: in the same block of memory, 8 bytes further on for each word before it
abbrev pub StandsAt : ℕ → Bor (List ℕ) → Bor (List ℕ) → Type 0
StandsAt at x m = (x.ref_ptr.0 ≡ m.ref_ptr.0) × (x.ref_ptr.1 ≡ at * 8 + m.ref_ptr.1)

-- the row that words hold, as one number: the first word is the lowest
abbrev pub value : List ℕ → ℕ
value ws = of_digits 64 ws

-- column 64 is the lowest bit of the second word
pub second_word : value (0 ∷ 1 ∷ []) ≡ 2 ^ 64
second_word = refl

-- the n rows of w words that stand at the start of a buffer, without gaps
unfoldable pub rows_of : ℕ → ℕ → List ℕ → List ℕ
rows_of w zero m = []
rows_of w (suc n) m = value (take w m) ∷ rows_of w n (drop w m)

-- the second row of two words begins at the third word
pub second_row : rows_of 2 2 (5 ∷ 0 ∷ 6 ∷ 0 ∷ []) ≡ 5 ∷ 6 ∷ []
unfolding rows_of
second_row = refl

-- the rows that stand there have no one past their last column: their padding is clean
abbrev pub Clean : ℕ → ℕ → List ℕ → Type 0
Clean rows columns m = (i : ℕ) → row (rows_of (words_of columns) rows m) i < 2 ^ columns

-- the same of a list of rows, as a test; and, as a test, that a buffer starts with that many rows, with clean padding
unfoldable pub narrow : ℕ → List ℕ → Bool
narrow columns [] = true
narrow columns (v ∷ L) = ltb v (2 ^ columns) && narrow columns L

abbrev pub holds_rows : ℕ → ℕ → List ℕ → Bool
holds_rows rows columns m = leb (rows * words_of columns) (length m) && narrow columns (rows_of (words_of columns) rows m)

-- len words from place a on have become zero
abbrev pub zeroed : ℕ → ℕ → List ℕ → List ℕ
zeroed a len t = paste t a (replicate len 0) len

-- word by word; what the second list lacks counts as zero
abbrev pub xors : List ℕ → List ℕ → List ℕ
xors [] ys = []
xors (x ∷ xs) [] = x ∷ xs
xors (x ∷ xs) (y ∷ ys) = bit_xor x y ∷ xors xs ys

-- the k columns of a row from column c on, as one number
abbrev pub window_bits : ℕ → ℕ → ℕ → ℕ
window_bits c k v = v / 2 ^ c % 2 ^ k

-- the w lowest words of a number
abbrev pub first_words : ℕ → ℕ → List ℕ
first_words w v = digits_of 64 w v

-- the words of rows, row after row without gaps
unfoldable pub flat : ℕ → List ℕ → List ℕ
flat w [] = []
flat w (v ∷ M) = first_words w v ++ flat w M
