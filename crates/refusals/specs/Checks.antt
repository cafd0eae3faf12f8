-- The checks of shape. A check is a refusal, exactly if its test holds. The number before each check is that of its refusal, as `number_of` has it.
use Rattle.std.specs.Prelude.{◌≡◌, not, List, [], ◌∷◌, ℕ, ◌+◌, ◌-◌, ◌*◌, ◌^◌, ◌≤◌, ◌<◌, eqb, ltb, leb, length}
use Rattle.words.specs.Words.{words_of, Clean, holds_rows}
use Rattle.refusals.specs.declared.Refusal.TheVariants.{TooManyRows, BadColumns, BadK, WrongLength, DirtyPadding, ShortRoom, BadBlocks, NotSquare, TooWide, NotBelow, WrongBuffer}
use Rattle.refusals.specs.Outcome.{Outcome, refuse_if, ◌and_then◌, first}

-- 1: over 512 rows
unfoldable pub too_many_rows : ℕ → Outcome
too_many_rows rows = refuse_if (ltb 512 rows) TooManyRows

-- 2: no column, or over 1,024
unfoldable pub bad_columns : ℕ → Outcome
bad_columns columns = refuse_if (eqb columns 0) BadColumns and_then refuse_if (ltb 1024 columns) BadColumns

-- 1, 2: the sizes of a matrix
unfoldable pub size_checks : ℕ → ℕ → Outcome
size_checks rows columns = too_many_rows rows and_then bad_columns columns

-- 3: k is 0, or over 8
unfoldable pub bad_k : ℕ → Outcome
bad_k k = refuse_if (eqb k 0) BadK and_then refuse_if (ltb 8 k) BadK

-- 4: not exactly rows x words
unfoldable pub wrong_length : ℕ → ℕ → ℕ → Outcome
wrong_length rows columns len = refuse_if (not (eqb len (rows * words_of columns))) WrongLength

-- 6: fewer than 2 ^ k rows, and `more` rows besides, as wide as that many columns
unfoldable pub short_room : ℕ → ℕ → ℕ → ℕ → Outcome
short_room more k columns room = refuse_if (ltb room ((more + 2 ^ k) * words_of columns)) ShortRoom

-- 7: there is no block, or n blocks leave no payload
unfoldable pub bad_blocks : ℕ → ℕ → Outcome
bad_blocks n columns = refuse_if (eqb n 0) BadBlocks and_then refuse_if (leb columns n) BadBlocks

-- 8: rows and columns differ in number
unfoldable pub not_square : ℕ → ℕ → Outcome
not_square rows columns = refuse_if (not (eqb rows columns)) NotSquare

-- 11: over 1,024 columns, once an identity is adjoined to the packets: a column more for each
unfoldable pub too_wide : ℕ → ℕ → Outcome
too_wide columns packets = refuse_if (ltb 1024 (columns + packets)) TooWide

-- 13: a buffer to be written that is not exactly rows x words
unfoldable pub wrong_buffer : ℕ → ℕ → ℕ → Outcome
wrong_buffer rows columns len = refuse_if (not (eqb len (rows * words_of columns))) WrongBuffer

-- 13: not a mark for each of n blocks
unfoldable pub wrong_marks : ℕ → ℕ → Outcome
wrong_marks n len = refuse_if (not (eqb len n)) WrongBuffer

-- 12: no such row, or entry: they are numbered from 0
unfoldable pub not_below : ℕ → ℕ → Outcome
not_below i count = refuse_if (leb count i) NotBelow

-- 5: a padding bit is 1, where the length is right
unfoldable pub dirty_padding : ℕ → ℕ → List ℕ → Outcome
dirty_padding rows columns m = refuse_if (not (holds_rows rows columns m)) DirtyPadding

-- ---- the order of the checks, call by call

-- the row view: 1, 2, 4, 12
abbrev pub view_order : ℕ → ℕ → ℕ → ℕ → List Outcome
view_order rows columns len i = size_checks rows columns ∷ wrong_length rows columns len ∷ not_below i rows ∷ []

abbrev pub view_checks : ℕ → ℕ → ℕ → ℕ → Outcome
view_checks rows columns len i = first (view_order rows columns len i)

-- the reduction: 1, 2, 3, 4, 6, 5
abbrev pub reduction_order : ℕ → ℕ → ℕ → List ℕ → ℕ → List Outcome
reduction_order rows columns k m room =
    size_checks rows columns ∷ bad_k k ∷ wrong_length rows columns (length m) ∷ short_room 0 k columns room ∷ dirty_padding rows columns m ∷ []

abbrev pub reduction_checks : ℕ → ℕ → ℕ → List ℕ → ℕ → Outcome
reduction_checks rows columns k m room = first (reduction_order rows columns k m room)

-- the inverse: 1, 2, 8, 3, 4, 13; then 6, 5. A matrix that is read, a result of as many words; a room for the matrix beside an identity, and the table
abbrev pub inverse_shapes : ℕ → ℕ → ℕ → ℕ → ℕ → List Outcome
inverse_shapes rows columns k len result =
    size_checks rows columns ∷ not_square rows columns ∷ bad_k k ∷ wrong_length rows columns len ∷ wrong_buffer rows columns result ∷ []

abbrev pub inverse_order : ℕ → ℕ → ℕ → List ℕ → ℕ → ℕ → List Outcome
inverse_order rows columns k m result room =
    first (inverse_shapes rows columns k (length m) result) ∷ short_room rows k (rows + columns) room ∷ dirty_padding rows columns m ∷ []

abbrev pub inverse_checks : ℕ → ℕ → ℕ → List ℕ → ℕ → ℕ → Outcome
inverse_checks rows columns k m result room = first (inverse_order rows columns k m result room)

-- solving: 1, 2, 7, 3, 4, 13; then 6, 5. An image of n blocks, and their marks: 13 for either
abbrev pub solving_shapes : ℕ → ℕ → ℕ → ℕ → ℕ → ℕ → ℕ → List Outcome
solving_shapes rows columns n k len image marks =
    size_checks rows columns ∷ bad_blocks n columns ∷ bad_k k ∷ wrong_length rows columns len ∷ wrong_buffer n (columns - n) image ∷ wrong_marks n marks ∷ []

abbrev pub solving_order : ℕ → ℕ → ℕ → ℕ → List ℕ → ℕ → ℕ → ℕ → List Outcome
solving_order rows columns n k m image marks room =
    first (solving_shapes rows columns n k (length m) image marks) ∷ short_room 0 k columns room ∷ dirty_padding rows columns m ∷ []

abbrev pub solving_checks : ℕ → ℕ → ℕ → ℕ → List ℕ → ℕ → ℕ → ℕ → Outcome
solving_checks rows columns n k m image marks room = first (solving_order rows columns n k m image marks room)

-- the contradiction call: 1, 2, 7, 11, 3, 4, 13; then 6, 5. The words that name packets; a room for the packets beside an identity, and the table
abbrev pub contradiction_shapes : ℕ → ℕ → ℕ → ℕ → ℕ → ℕ → List Outcome
contradiction_shapes rows columns n k len named =
    size_checks rows columns ∷ bad_blocks n columns ∷ too_wide columns rows ∷ bad_k k ∷ wrong_length rows columns len ∷ wrong_buffer 1 rows named ∷ []

abbrev pub contradiction_order : ℕ → ℕ → ℕ → ℕ → List ℕ → ℕ → ℕ → List Outcome
contradiction_order rows columns n k m named room =
    first (contradiction_shapes rows columns n k (length m) named) ∷ short_room rows k (columns + rows) room ∷ dirty_padding rows columns m ∷ []

abbrev pub contradiction_checks : ℕ → ℕ → ℕ → ℕ → List ℕ → ℕ → ℕ → Outcome
contradiction_checks rows columns n k m named room = first (contradiction_order rows columns n k m named room)

-- ---- what passing means, part by part

-- 1, 2: at most that many rows, and 1 to 1,024 columns
pub record Sized (most rows columns : ℕ) : Type 0 where
  pub few : rows ≤ most
  pub some : 0 < columns
  pub wide : columns ≤ 1024

-- 3: a window of 1 to 8 columns
pub record Window (k : ℕ) : Type 0 where
  pub least : 0 < k
  pub most : k ≤ 8

-- 7: the columns of a packet part into the coefficients of n blocks and a payload
pub record Parted (n columns : ℕ) : Type 0 where
  pub block : 0 < n
  pub payload : n < columns

-- ---- and call by call

pub record ViewPasses (rows columns len i : ℕ) : Type 0 where
  pub sized : Sized 512 rows columns
  pub exact : len ≡ rows * words_of columns
  pub below : i < rows

pub record ReductionPasses (rows columns k : ℕ) (m : List ℕ) (room : ℕ) : Type 0 where
  pub sized : Sized 512 rows columns
  pub window : Window k
  pub exact : length m ≡ rows * words_of columns
  pub roomy : 2 ^ k * words_of columns ≤ room
  pub clean : Clean rows columns m

pub record InversePasses (rows columns k : ℕ) (m : List ℕ) (result room : ℕ) : Type 0 where
  pub sized : Sized 512 rows columns
  pub square : rows ≡ columns
  pub window : Window k
  pub exact : length m ≡ rows * words_of columns
  pub fitting : result ≡ rows * words_of columns
  pub roomy : (rows + 2 ^ k) * words_of (rows + columns) ≤ room
  pub clean : Clean rows columns m

pub record SolvingPasses (rows columns n k : ℕ) (m : List ℕ) (image marks room : ℕ) : Type 0 where
  pub sized : Sized 512 rows columns
  pub parted : Parted n columns
  pub window : Window k
  pub exact : length m ≡ rows * words_of columns
  pub fitting : image ≡ n * words_of (columns - n)
  pub marked : marks ≡ n
  pub roomy : 2 ^ k * words_of columns ≤ room
  pub clean : Clean rows columns m

pub record ContradictionPasses (rows columns n k : ℕ) (m : List ℕ) (named room : ℕ) : Type 0 where
  pub sized : Sized 512 rows columns
  pub parted : Parted n columns
  pub wide : columns + rows ≤ 1024
  pub window : Window k
  pub exact : length m ≡ rows * words_of columns
  pub fitting : named ≡ words_of rows
  pub roomy : (rows + 2 ^ k) * words_of (columns + rows) ≤ room
  pub clean : Clean rows columns m
