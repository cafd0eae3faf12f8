-- A sample bundle, byte by byte, and damaged bundles, each with the number that reading it answers.
use Rattle.std.specs.Prelude.{List, [], ◌∷◌, ◌++◌, ℕ, zero, suc, ◌/◌, ◌%◌, take}
use Rattle.bundle.specs.Bundle.{Entry}

-- ---- bytes, written without the definitions that they are to test

zeros : ℕ → List ℕ
zeros zero = []
zeros (suc n) = 0 ∷ zeros n

-- a number in two bytes
two : ℕ → List ℕ
two x = x % 256 ∷ x / 256 ∷ []

-- an entry's ten bytes: kind, rows, columns, offset
entry : ℕ → ℕ → ℕ → ℕ → List ℕ
unfolding two
entry kind rows columns offset = two kind ++ two rows ++ two columns ++ two offset ++ two 0

-- words with eight columns or fewer: of kind 1 in the lowest byte, of kind 2 in the highest
low : ℕ → List ℕ
unfolding zeros
low x = x ∷ zeros 7

high : ℕ → List ℕ
unfolding zeros
high x = zeros 7 ++ (x ∷ [])

-- ---- the sample: P1 and P2, of kind 1; and with P1 of kind 2

P1 : List ℕ
unfolding low
P1 = low 3 ++ low 1

P2 : List ℕ
unfolding low
P2 = low 6 ++ low 6 ++ low 0

unfoldable pub sample : List ℕ
unfolding two entry P1 P2
sample = two 2 ++ entry 1 2 2 22 ++ entry 1 3 3 38 ++ P1 ++ P2

unfoldable pub mixed : List ℕ
unfolding two entry high P2
mixed = two 2 ++ entry 2 2 2 22 ++ entry 1 3 3 38 ++ high 192 ++ high 128 ++ P2

-- what they hold: column 0 of a row is its lowest bit
unfoldable pub matrices : ℕ → List Entry
matrices kind =
    record { kind = kind; rows = 2; columns = 2; matrix = 3 ∷ 1 ∷ [] } ∷ record { kind = 1; rows = 3; columns = 3; matrix = 6 ∷ 6 ∷ 0 ∷ [] } ∷ []

-- ---- the table

pub record Example : Type 0 where
  pub bytes : List ℕ
  pub number : ℕ

infix 20 ◌gets◌
abbrev ◌gets◌ : List ℕ → ℕ → Example
b gets n = record { bytes = b; number = n }

-- the sample with other contents; or with other words in place of P1
contents : List ℕ → List ℕ → List ℕ
unfolding two P1 P2
contents a b = two 2 ++ a ++ b ++ P1 ++ P2

words : List ℕ → List ℕ → List ℕ
unfolding two P2
words contents body = two 2 ++ contents ++ body ++ P2

unfoldable pub table : List Example
unfolding zeros two entry low high P1 contents words sample mixed
table =
    (sample gets 0)
    ∷ (mixed gets 0)
    -- a matrix of no rows
    ∷ ((two 1 ++ entry 1 0 5 12) gets 0)
    -- no count, half a count; no entry, an entry too many; contents that are cut
    ∷ ([] gets 20)
    ∷ (1 ∷ [] gets 20)
    ∷ (two 0 gets 21)
    ∷ (two 65 gets 21)
    ∷ (take 21 sample gets 22)
    -- a kind that is not known
    ∷ (contents (entry 3 2 2 22) (entry 1 3 3 38) gets 23)
    ∷ (contents (entry 1 2 2 22) (entry 3 3 3 38) gets 23)
    -- no columns, too many columns, too many rows
    ∷ (contents (entry 1 2 0 22) (entry 1 3 3 38) gets 24)
    ∷ (contents (entry 1 2 1025 22) (entry 1 3 3 38) gets 24)
    ∷ (contents (entry 1 513 2 22) (entry 1 3 3 38) gets 24)
    -- a body that leaves a gap, one that lies over the body before it
    ∷ (contents (entry 1 2 2 23) (entry 1 3 3 38) gets 25)
    ∷ (contents (entry 1 2 2 22) (entry 1 3 3 22) gets 25)
    -- a byte too few, a byte too many
    ∷ (take 61 sample gets 26)
    ∷ ((sample ++ zeros 1) gets 27)
    -- a one past the last column, of each kind; the first entry is refused before the second
    ∷ (words (entry 1 2 2 22 ++ entry 1 3 3 38) (low 7 ++ low 1) gets 5)
    ∷ (words (entry 2 2 2 22 ++ entry 1 3 3 38) (high 224 ++ high 128) gets 5)
    ∷ (words (entry 2 2 2 22 ++ entry 1 3 3 38) (low 1 ++ high 128) gets 5)
    ∷ (words (entry 1 2 2 22 ++ entry 3 3 3 38) (low 7 ++ low 1) gets 5)
    ∷ []
