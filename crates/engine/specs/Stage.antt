-- What the engine's loops keep, on lists of rows. No public promise cites any of it.
use Rattle.std.specs.Prelude.{◌≡◌, ◌≢◌, ◌⊎◌, List, Option, Some, None, ℕ, ◌+◌, ◌-◌, ◌*◌, ◌/◌, ◌%◌, ◌^◌, ◌≤◌, ◌<◌, length, get_or, set, drop}
use Rattle.std.proofs.Math.Seq.{paste}
use Rattle.gf2.specs.Rows.{bit, ◌⊕◌, row, part, pick, combine, RowSpace, SameRowSpace, tabulate}
use Rattle.gf2.specs.Reduced.{Pivot}
use Rattle.gf2.specs.Additions.{table_additions, additions}
use Rattle.words.specs.Words.{value, words_of, rows_of, zeroed, window_bits}
use Rattle.method.specs.Stage.{Stage, Pending}
use Rattle.method.specs.Gray.{gray}
use Rattle.engine.specs.declared.Eliminated.{Eliminated}
use Rattle.engine.specs.Core.{ReducedTo}

-- ---- rows of words

-- n rows of w words stand at the start of a buffer of len words
pub record Sizes (w n len : ℕ) : Type 0 where
  pub fits : n * w ≤ len
  pub narrow : w ≤ 16
  pub few : n ≤ 1024

-- the words of row i, and a row put in its place
abbrev pub row_words : ℕ → ℕ → List ℕ → List ℕ
row_words i w m = part (i * w) w m

abbrev pub put_row : List ℕ → ℕ → ℕ → List ℕ → List ℕ
put_row m i w x = paste m (i * w) x w

-- the rows have become L, and what stands past them is as it was
pub record Now (w n : ℕ) (m m' L : List ℕ) : Type 0 where
  pub rows : rows_of w n m' ≡ L
  pub past : drop (n * w) m' ≡ drop (n * w) m

-- ---- the search in the window of k columns from c, which has passed x columns and found s pivots, in rows base to base + s - 1

-- F is the matrix that clearing will give. For each row not yet used, h has the window's bits that it has, and o those that it will have
pub record Search (n c k x base s : ℕ) (M h o cols : List ℕ) : Type 0 where
  pub F : List ℕ
  pub pending : Pending (c + x) base s M F
  pub size : length F ≡ n
  pub has : (i : ℕ) → base + s ≤ i → i < n → get_or h i 0 ≡ window_bits c k (row M i)
  pub will : (i : ℕ) → base + s ≤ i → i < n → get_or o i 0 ≡ window_bits c k (row F i)
  pub used : (i : ℕ) → i < base + s → get_or o i 0 ≡ 0
  pub pivots : (i : ℕ) → i < base + s → Pivot (get_or cols i 0) (row F i)
  pub none : (i : ℕ) → base + s ≤ i → i < length cols → get_or cols i 0 ≡ 65535
  pub here : (i : ℕ) → base ≤ i → i < base + s → c ≤ get_or cols i 0
  pub room : base + s ≤ n
  pub few : s ≤ x
  pub full : s ≡ x → (b : ℕ) → b < s → get_or cols (base + b) 0 ≡ c + b
  pub whole : n ≤ length cols
  pub size_h : length h ≡ n
  pub size_o : length o ≡ n

-- the rows' space, what lies past the rows, and the pivots of the first `base` rows have been kept
pub record Kept (w n base : ℕ) (m m' cols cols' : List ℕ) : Type 0 where
  pub space : SameRowSpace (rows_of w n m) (rows_of w n m')
  pub past : drop (n * w) m' ≡ drop (n * w) m
  pub old : (i : ℕ) → i < base → get_or cols' i 0 ≡ get_or cols i 0

-- u has a one wherever a number from place `from` on has one
abbrev pub Union : ℕ → ℕ → List ℕ → ℕ → Type 0
Union n from o u = (i y : ℕ) → from ≤ i → i < n → bit y u ≡ 0 → bit y (get_or o i 0) ≡ 0

-- the first place from `from` on with a one in column x, if there is one
abbrev pub FirstOne : List ℕ → ℕ → ℕ → Option ℕ → Type 0
FirstOne o x from (Some i) = (from ≤ i) × (i < length o) × (bit x (get_or o i 0) ≡ 1) × ((j : ℕ) → from ≤ j → j < i → bit x (get_or o j 0) ≡ 0)
FirstOne o x from None = (j : ℕ) → from ≤ j → j < length o → bit x (get_or o j 0) ≡ 0

-- each number has been cleared in column x by b
abbrev pub Swept : ℕ → ℕ → List ℕ → List ℕ → Type 0
Swept x b o p = (i : ℕ) → i < length o → get_or p i 0 ≡ get_or o i 0 ⊕ pick (bit x (get_or o i 0)) b

-- the window's pivot rows, each with its own column
pub record Own (w base s : ℕ) (M cols : List ℕ) : Type 0 where
  pub wide : (j : ℕ) → base ≤ j → j < base + s → get_or cols j 0 / 64 < w
  pub one : (j : ℕ) → base ≤ j → j < base + s → bit (get_or cols j 0) (row M j) ≡ 1
  pub clean : (i j : ℕ) → base ≤ i → i < base + s → base ≤ j → j < base + s → i ≢ j → bit (get_or cols i 0) (row M j) ≡ 0

-- row i has become v: pivot rows have been added until the columns of those below place p are zero
pub record Settled (base s p i : ℕ) (M cols N : List ℕ) : Type 0 where
  pub v : ℕ
  pub put : N ≡ set M i v
  pub space : RowSpace (part base s M) (row M i ⊕ v)
  pub clear : (j : ℕ) → base ≤ j → j < p → bit (get_or cols j 0) v ≡ 0

-- row base + s has been added to those pivot rows below place p that have a one in column c
pub record Lifted (c base s p : ℕ) (M N : List ℕ) : Type 0 where
  pub up : (j : ℕ) → base ≤ j → j < p → row N j ≡ row M j ⊕ pick (bit c (row M j)) (row M (base + s))
  pub kept : (j : ℕ) → (j < base) ⊎ (p ≤ j) → row N j ≡ row M j

-- ---- the table

-- the codebook: entry t is t xor t div 2
abbrev pub Book : List ℕ → Type 0
Book codes = (t : ℕ) → t < 256 → get_or codes t 0 ≡ gray t

-- r rows of v words from place a on, w words apart, all end below len
abbrev pub Within : ℕ → ℕ → ℕ → ℕ → ℕ → Type 0
Within a w v r len = (b : ℕ) → b < r → a + b * w + v ≤ len

-- these rows
unfoldable pub spaced : ℕ → ℕ → ℕ → ℕ → List ℕ → List ℕ
unfolding tabulate
spaced a w v r m = tabulate r (λ b. value (part (a + b * w) v m))

-- row j of a table of rows of v words
abbrev pub table_row : ℕ → List ℕ → ℕ → ℕ
table_row v t j = value (part (j * v) v t)

-- row j is the sum of the rows of P that j names. Row 0 is never read
abbrev pub Table : ℕ → List ℕ → (ℕ → ℕ) → Type 0
Table r P T = (j : ℕ) → 0 < j → j < 2 ^ r → T j ≡ combine j P

-- the recorded pivots of the window of k columns from c
pub record WindowPivots (c k base r : ℕ) (cols : List ℕ) : Type 0 where
  pub low : (b : ℕ) → b < r → c ≤ get_or cols (base + b) 0
  pub high : (b : ℕ) → b < r → get_or cols (base + b) 0 < c + k
  pub full : r ≡ k → (b : ℕ) → b < r → get_or cols (base + b) 0 ≡ c + b

-- at most 8 columns, all among the 8 from c on
pub record PivotsNear (c : ℕ) (pivots : List ℕ) : Type 0 where
  pub few : length pivots ≤ 8
  pub low : (b : ℕ) → b < length pivots → c ≤ get_or pivots b 0
  pub high : (b : ℕ) → b < length pivots → get_or pivots b 0 < c + 8

-- for each of the first r columns, bit b of y says whether x has a one in column b of these, counted from c
pub record Gathered (c r : ℕ) (pivots : List ℕ) (x y : ℕ) : Type 0 where
  pub small : y < 2 ^ r
  pub named : (b : ℕ) → b < r → (q : ℕ) → c + q ≡ get_or pivots b 0 → bit b y ≡ bit q x

-- for each row the number of the table row that clears it; 0 for the window's pivot rows
pub record Numbers (n base r : ℕ) (M o cols : List ℕ) : Type 0 where
  pub small : (i : ℕ) → i < n → get_or o i 0 < 2 ^ r
  pub own : (i : ℕ) → base ≤ i → i < base + r → get_or o i 0 ≡ 0
  pub named : (i b : ℕ) → i < n → (i < base) ⊎ (base + r ≤ i) → b < r → bit b (get_or o i 0) ≡ bit (get_or cols (base + b) 0) (row M i)

-- each row with the sum of the rows of P that its number names added to it
unfoldable pub cleared : List ℕ → List ℕ → List ℕ → List ℕ
unfolding tabulate
cleared o P M = tabulate (length M) (λ i. row M i ⊕ combine (get_or o i 0) P)

-- each row with the row of T that its number names added to it, z words up; number 0 names none
unfoldable pub added : ℕ → List ℕ → (ℕ → ℕ) → List ℕ → List ℕ
unfolding tabulate pick
added z o T M = tabulate (length M) (λ i. row M i ⊕ pick (get_or o i 0) (T (get_or o i 0) * 2 ^ (64 * z)))

-- what making a table of the last v words of r rows from base on and clearing by it needs, and what it leaves
pub record Applies (w v n base r : ℕ) (m t o : List ℕ) : Type 0 where
  pub sizes : Sizes w n (length m)
  pub inside : v ≤ w
  pub rows : base + r ≤ n
  pub most : r ≤ 8
  pub table : 2 ^ r * w ≤ length t
  pub bytes : n ≤ length o
  pub small : (i : ℕ) → i < n → get_or o i 0 < 2 ^ r
  pub low : (i : ℕ) → base ≤ i → i < base + r → row (rows_of w n m) i % 2 ^ (64 * (w - v)) ≡ 0

pub record Applied (w n base r : ℕ) (m t o m' t' : List ℕ) (additions : ℕ) : Type 0 where
  pub now : Now w n m m' (cleared o (part base r (rows_of w n m)) (rows_of w n m))
  pub rest : drop (2 ^ r * w) t' ≡ drop (2 ^ r * w) t
  pub count : additions ≡ table_additions r

-- ---- what a window leaves: r pivots more

pub record Windowed (n c k base r : ℕ) (L N cols cols' : List ℕ) : Type 0 where
  pub stage : Stage n (c + k) (base + r) N cols'
  pub space : SameRowSpace L N
  pub old : (i : ℕ) → i < base → get_or cols' i 0 ≡ get_or cols i 0
  pub here : (i : ℕ) → base ≤ i → i < base + r → c ≤ get_or cols' i 0
  pub few : r ≤ k

-- ---- what the whole leaves, wherever the table is: the matrix at the start of m reduced, what lies past it as it was, and the table's words zero

pub record Reduces (r : Eliminated) (rows columns k : ℕ) (m t m' t' list' : List ℕ) : Type 0 where
  pub matrix : ReducedTo (additions k columns) (rows_of (words_of columns) rows m) (rows_of (words_of columns) rows m') r list'
  pub past : drop (rows * words_of columns) m' ≡ drop (rows * words_of columns) m
  pub table : t' ≡ zeroed 0 (2 ^ k * words_of columns) t
