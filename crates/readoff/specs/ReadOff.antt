-- What is read off a reduced matrix, by the words that hold it. What stands past the last column is read as it is: nothing here asks for clean padding.
use Rattle.std.specs.Prelude.{◌≡◌, Bool, true, false, Result, Ok, Err, List, ℕ, ◌+◌, ◌-◌, ◌*◌, ◌/◌, ◌^◌, ◌≤◌, T, length}
use Rattle.gf2.specs.Rows.{tabulate}
use Rattle.gf2.specs.Inverse.{right_of, begins_with_identity}
use Rattle.words.specs.Words.{value, words_of, rows_of, first_words, flat}
use Rattle.images.specs.ReadOff.{pivot_row, has_pivot, contradictory, shown, mark, marked}
use Rattle.refusals.specs.declared.Unfit.{Unfit}
use Rattle.readoff.specs.declared.Unsolved.{Unsolved}
use Rattle.readoff.specs.declared.Unsolved.TheVariants as unsolved

-- rows of that many columns stand at the start of m
pub record Holds (rows columns : ℕ) (m : List ℕ) : Type 0 where
  pub wide : columns ≤ 1024
  pub held : rows * words_of columns ≤ length m

-- an answer: whether something is there, where the shapes fit
abbrev pub Reading : Type 0
Reading = Result Bool Unfit

-- the shapes fit and the test holds; or they fit and it does not; or they do not fit
abbrev pub Decided : Reading → Type 0 → Bool → Type 0
Decided (Ok true) fits b = fits × T b
Decided (Ok false) fits b = fits × (T b → ⊥)
Decided (Err e) fits b = fits → ⊥

-- a buffer x has become what is read, or stays as it was
abbrev pub ReadInto : Reading → List ℕ → List ℕ → List ℕ → Type 0
ReadInto (Ok true) read x x' = x' ≡ read
ReadInto (Ok false) read x x' = x' ≡ x
ReadInto (Err e) read x x' = x' ≡ x

-- ---- a pivot among the payload

pub record Packets (rows columns n : ℕ) (m : List ℕ) : Type 0 where
  pub matrix : Holds rows columns m
  pub blocks : n ≤ columns

abbrev pub IsRefuted : Reading → ℕ → ℕ → ℕ → List ℕ → Type 0
IsRefuted r rows columns n m = Decided r (Packets rows columns n m) (contradictory n (columns - n) (rows_of (words_of columns) rows m))

-- ---- the first row with its pivot in columns a to e - 1: its columns from e on

pub record RightFits (rows columns e : ℕ) (m : List ℕ) (names : ℕ) : Type 0 where
  pub matrix : Holds rows columns m
  pub right : e ≤ columns
  pub fitting : names ≡ words_of (columns - e)

abbrev pub RightRead : Reading → ℕ → ℕ → ℕ → ℕ → List ℕ → List ℕ → List ℕ → Type 0
RightRead r rows columns a e m names names' =
    Decided r (RightFits rows columns e m (length names)) (has_pivot a e (rows_of (words_of columns) rows m))
    × ReadInto r (first_words (words_of (columns - e)) (pivot_row a e (rows_of (words_of columns) rows m) / 2 ^ e)) names names'

-- ---- the right half of a matrix of n rows and 2 n columns that begins with the identity

pub record Halves (n : ℕ) (m : List ℕ) (result : ℕ) : Type 0 where
  pub matrix : Holds n (n + n) m
  pub fitting : result ≡ n * words_of n

abbrev pub Halved : Reading → ℕ → List ℕ → List ℕ → List ℕ → Type 0
Halved r n m result result' =
    Decided r (Halves n m (length result)) (begins_with_identity n (rows_of (words_of (n + n)) n m))
    × ReadInto r (flat (words_of n) (right_of n (rows_of (words_of (n + n)) n m))) result result'

-- ---- the blocks that reduced packets make known

pub record Blocks (rows columns n : ℕ) (m : List ℕ) (unknown image marks : ℕ) : Type 0 where
  pub packets : Packets rows columns n m
  pub filled : words_of (columns - n) ≤ unknown
  pub fitting : image ≡ n * words_of (columns - n)
  pub marked : marks ≡ n

-- the image shows each of n blocks in v words, an unknown one as `unknown`; and the marks tell which of them are known
pub record Shown (unknown n v : ℕ) (R image marks : List ℕ) : Type 0 where
  pub image_is : image ≡ flat v (tabulate n (shown unknown n R))
  pub marks_are : marks ≡ tabulate n (mark n R)

abbrev pub BlocksRead : Result ℕ Unsolved → ℕ → ℕ → ℕ → List ℕ → List ℕ → List ℕ → List ℕ → List ℕ → List ℕ → Type 0
BlocksRead (Ok x) rows columns n m unknown image marks image' marks' =
    Blocks rows columns n m (length unknown) (length image) (length marks) × (T (contradictory n (columns - n) (rows_of (words_of columns) rows m)) → ⊥)
    × Shown (value unknown) n (words_of (columns - n)) (rows_of (words_of columns) rows m) image' marks' × (x ≡ marked marks')
BlocksRead (Err unsolved.Contradictory) rows columns n m unknown image marks image' marks' =
    Blocks rows columns n m (length unknown) (length image) (length marks) × T (contradictory n (columns - n) (rows_of (words_of columns) rows m))
    × (image' ≡ image) × (marks' ≡ marks)
BlocksRead (Err unsolved.Unfit) rows columns n m unknown image marks image' marks' =
    (Blocks rows columns n m (length unknown) (length image) (length marks) → ⊥) × (image' ≡ image) × (marks' ≡ marks)
