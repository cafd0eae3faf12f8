-- A number read from bytes: what the library's reading of eight bytes gives is the number that they write, and zeros behind them change nothing.
use mathlib.Core.Path.{◌≡◌, refl, ap, ◌∙◌}
use mathlib.Core.List.{List, [], ◌∷◌, ◌++◌}
use Prim.Native.Nat.{ℕ, zero, suc, ◌+◌, ◌-◌, ◌*◌, ◌≤◌}
use native.Mathlib.Omega.{arith}
use lib.ListN.{length, take, drop, get_or, replicate, drop_of_length-le}
use lib.Seq.{drop-cons}
use mir.Syntax.{w64}
use Rattle.std.specs.Int.{from_le_bytes}
use Rattle.std.proofs.lemmas.List.{drop-replicate, length-append, length-replicate}
use Rattle.words.proofs.Parts.{length_part}
use Rattle.wire.specs.Bytes.{le, num}

-- the number in the n bytes from byte i on
abbrev number_from : ℕ → ℕ → List ℕ → ℕ
number_from zero i l = 0
number_from (suc n) i l = number_from n (suc i) l * 256 + get_or l i 0

le_from : (n i : ℕ) (l : List ℕ) → length l ≡ i + n → le (drop i l) ≡ number_from n i l
le_from zero i l e = ap le (drop_of_length-le l {i = i} (omega arith))
le_from (suc n) i l e =
    ap le (drop-cons l i 0 (omega arith)) ∙ ap (λ (x : ℕ). x * 256 + get_or l i 0) (le_from n (suc i) l (omega arith))

le_zeros : (l : List ℕ) (m : ℕ) → le (l ++ replicate m 0) ≡ le l
le_zeros [] zero = refl
le_zeros [] (suc m) = ap (λ (x : ℕ). x * 256 + 0) (le_zeros [] m)
le_zeros (x ∷ l) m = ap (λ (y : ℕ). y * 256 + x) (le_zeros l m)

eight : (l : List ℕ) → length l ≡ 8 → from_le_bytes w64 l ≡ le l
eight l e = omega (arith, le_from 8 0 l e)

read_zeros : (l : List ℕ) (k : ℕ) → length l ≡ k → k ≤ 8 → from_le_bytes w64 (l ++ drop k (replicate 8 0)) ≡ le l
read_zeros l k e h =
    let n : length (l ++ replicate (8 - k) 0) ≡ 8 = omega (arith, length-append l (replicate (8 - k) 0), length-replicate {A = ℕ} (8 - k) 0) in
    ap (λ (x : List ℕ). from_le_bytes w64 (l ++ x)) (drop-replicate k 8 0) ∙ eight (l ++ replicate (8 - k) 0) n ∙ le_zeros l (8 - k)

-- x is read from the bytes l, which are the k bytes from byte p on, as a range is cut
pub read_num : (k p : ℕ) (b l : List ℕ) (x : ℕ) → x ≡ from_le_bytes w64 (l ++ drop k (replicate 8 0)) → l ≡ take ((p + k) - p) (drop p b) → p + k ≤ length b → k ≤ 8 → x ≡ num k p b
unfolding num
read_num k p b l x ex e h s =
    let n : (p + k) - p ≡ k = omega arith in
    let el : l ≡ take k (drop p b) = e ∙ ap (λ (j : ℕ). take j (drop p b)) n in
    ex ∙ read_zeros l k (ap length el ∙ length_part p k b h) s ∙ ap le el
