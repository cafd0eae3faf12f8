-- What an image meets: sums of packets that it meets, and so the same packets in any order, repeated or not, and any list with their row space.
use mathlib.Core.Path.{refl, sym, ◌∙◌}
use mathlib.Core.List.{List}
use Prim.Native.Nat.{ℕ, ◌%◌, ◌^◌, ◌<◌}
use native.Mathlib.Decide.{dec_lt}
use native.Mathlib.Nat.{zero-mod, zero-div}
use native.Mathlib.Omega.{arith}
use lib.Bits.{xor_mod, xor_shr}
use lib.ListN.{length, get_or-eq_default}
use Rattle.gf2.specs.Rows.{◌⊕◌, row, combine, RowSpace, SameRowSpace}
use Rattle.gf2.specs.Reduced.{Pivot}
use Rattle.gf2.proofs.Space.{combine_zero, combine_xor, space_ind, space_zero, space_row, same_rows}
use Rattle.gf2.proofs.Pivot.{cut_zero, high_not_zero}
use Rattle.images.specs.Packets.{Meets, MeetsAll, Contradictory, Among, Contradiction}

pub meets_zero : (n : ℕ) (X : List ℕ) → Meets n X 0
unfolding Meets
meets_zero n X = rw (zero-mod (2 ^ n), zero-div (2 ^ n)) (combine_zero X)

pub meets_sum : (n : ℕ) (X : List ℕ) (a b : ℕ) → Meets n X a → Meets n X b → Meets n X (a ⊕ b)
unfolding Meets
meets_sum n X a b p q = rw (xor_mod a b n, xor_shr a b n, combine_xor (a % 2 ^ n) (b % 2 ^ n) X, p, q)

pub meets_space : (n : ℕ) (X L : List ℕ) → MeetsAll n X L → (v : ℕ) → RowSpace L v → Meets n X v
meets_space n X L h = space_ind (Meets n X) L (meets_zero n X) (meets_sum n X) h

-- lists with one row space are met by the same images
pub meets_same : (n : ℕ) (X L M : List ℕ) → SameRowSpace L M → MeetsAll n X L → MeetsAll n X M
meets_same n X L M s h i = meets_space n X L h (row M i) (s.back (row M i) (space_row M i))

-- ---- one list among another

among_space : (L M : List ℕ) → Among L M → (i : ℕ) → RowSpace M (row L i)
among_space L M h i = go (dec_lt i (length L))
  where
    go : Dec (i < length L) → RowSpace M (row L i)
    go (yes l) = let t = h i l in rw t.2 at (space_row M t.0)
    go (no k) = rw (get_or-eq_default L 0 {n = i} (omega arith)) (space_zero M)

-- order and repeats mean nothing: the same packets have the same row space
pub same_packets : (L M : List ℕ) → Among L M → Among M L → SameRowSpace L M
same_packets L M h k = same_rows L M (among_space L M h) (among_space M L k)

-- who meets more packets meets fewer
pub meets_among : (n : ℕ) (X L M : List ℕ) → Among L M → MeetsAll n X M → MeetsAll n X L
meets_among n X L M h m i = meets_space n X M m (row L i) (among_space L M h i)

-- ---- contradictions

-- packets that contradict each other are met by no image
pub contradiction_unmet : (n p : ℕ) (L : List ℕ) (c : ℕ) → Contradiction n L c → Contradictory n p L
unfolding Meets
contradiction_unmet n p L c k (X, _, h) =
    k.payloads_not (sym (meets_space n X L h (combine c L) (c, refl)) ∙ rw k.coefficients_zero (combine_zero X))

-- an image meets no packet whose pivot stands in the payload
pub met_pivot : (n q : ℕ) (X : List ℕ) (v : ℕ) → Meets n X v → Pivot q v → q < n
unfolding Meets
met_pivot n q X v m f = go (dec_lt q n)
  where
    go : Dec (q < n) → q < n
    go (yes l) = l
    go (no k) = absurd (high_not_zero n q v (omega arith) f (sym m ∙ rw (cut_zero n q v (omega arith) f) (combine_zero X)))
