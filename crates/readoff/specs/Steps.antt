-- What the steps on the way say, inside the crate. No public promise cites any of it.
use Rattle.std.specs.Prelude.{◌≡◌, Bool, true, false, List, ◌∷◌, ℕ, ◌*◌, ◌≤◌, ◌<◌, length, Option, None, Some}
use Rattle.gf2.specs.Rows.{bit, row}
use Rattle.images.specs.ReadOff.{inside}
use Rattle.readoff.specs.ReadOff.{Shown}

-- column q holds the first one of the row v from column c on
pub record IsNext (c v q : ℕ) : Type 0 where
  pub from : c ≤ q
  pub zeros : (i : ℕ) → c ≤ i → i < q → bit i v ≡ 0
  pub one : bit q v ≡ 1

-- where the first one from column c on stands, if there is one
abbrev pub NextOne : ℕ → ℕ → Option ℕ → Type 0
NextOne c v None = (i : ℕ) → c ≤ i → bit i v ≡ 0
NextOne c v (Some q) = IsNext c v q

-- whether a one stands in columns a to e - 1
abbrev pub HasOne : ℕ → ℕ → ℕ → Bool → Type 0
HasOne a e v true = (q : ℕ) × (a ≤ q) × (q < e) × (bit q v ≡ 1)
HasOne a e v false = (q : ℕ) → a ≤ q → q < e → bit q v ≡ 0

-- the first row of R whose pivot stands in columns a to e - 1, if there is one
abbrev pub FirstIn : ℕ → ℕ → List ℕ → Option ℕ → Type 0
FirstIn a e R None = (j : ℕ) → j < length R → inside a e (row R j) ≡ false
FirstIn a e R (Some i) = (i < length R) × (inside a e (row R i) ≡ true) × ((j : ℕ) → j < i → inside a e (row R j) ≡ false)

-- an image of as many blocks as there are marks, v words each
pub record InBlocks (v image marks : ℕ) : Type 0 where
  pub fitting : image ≡ marks * v
  pub short : v ≤ 16
  pub few : marks ≤ 1024

-- where image and marks show what the rows R say, they come to show what r and R say
abbrev pub Tells : ℕ → ℕ → ℕ → ℕ → List ℕ → List ℕ → List ℕ → List ℕ → Type 0
Tells unknown n v r image marks image' marks' = (R : List ℕ) → Shown unknown n v R image marks → Shown unknown n v (r ∷ R) image' marks'
