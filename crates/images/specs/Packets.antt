-- Packets, images, and when an image meets a packet.
-- Columns 0 to n - 1 of a packet are its coefficients, the p columns behind them its payload. An image has a row of p bits for each of n blocks.
use Rattle.std.specs.Prelude.{◌≡◌, ◌≢◌, List, ℕ, ◌/◌, ◌%◌, ◌^◌, ◌<◌, length}
use Rattle.gf2.specs.Rows.{row, Matrix, combine}

abbrev pub coefficients : ℕ → ℕ → ℕ
coefficients n v = v % 2 ^ n

abbrev pub payload : ℕ → ℕ → ℕ
payload n v = v / 2 ^ n

abbrev pub Image : ℕ → ℕ → List ℕ → Type 0
Image n p X = Matrix n p X

-- the blocks that the coefficients choose sum to the payload
unfoldable pub Meets : ℕ → List ℕ → ℕ → Type 0
Meets n X v = combine (coefficients n v) X ≡ payload n v

-- X meets every packet of L (past the last one stands zero, which any image meets)
abbrev pub MeetsAll : ℕ → List ℕ → List ℕ → Type 0
MeetsAll n X L = (i : ℕ) → Meets n X (row L i)

-- some image meets all packets
abbrev pub Met : ℕ → ℕ → List ℕ → Type 0
Met n p L = (X : List ℕ) × Image n p X × MeetsAll n X L

-- no image meets all packets
abbrev pub Contradictory : ℕ → ℕ → List ℕ → Type 0
Contradictory n p L = Met n p L → ⊥

-- all images that meet the packets agree on block j
abbrev pub Agreed : ℕ → ℕ → List ℕ → ℕ → Type 0
Agreed n p L j = (X Y : List ℕ) → Image n p X → Image n p Y → MeetsAll n X L → MeetsAll n Y L → row X j ≡ row Y j

-- each packet of L is one of M
abbrev pub Among : List ℕ → List ℕ → Type 0
Among L M = (i : ℕ) → i < length L → (j : ℕ) × (j < length M) × (row M j ≡ row L i)

-- the packets of L that c names contradict each other: in their sum every coefficient is zero and some payload bit is not
pub record Contradiction (n : ℕ) (L : List ℕ) (c : ℕ) : Type 0 where
  pub coefficients_zero : coefficients n (combine c L) ≡ 0
  pub payloads_not : payload n (combine c L) ≢ 0
