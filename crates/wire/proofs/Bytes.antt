-- Numbers in bytes: how large they are, and that they are read back as they were written.
use mathlib.Core.Path.{◌≡◌, sym, ap, ap₂, ◌∙◌, subst}
use mathlib.Core.List.{List, ◌++◌}
use Prim.Native.Nat.{ℕ, suc, ◌+◌, ◌-◌, ◌*◌, ◌^◌, ◌<◌, ◌≤◌}
use native.Mathlib.Nat.{lt_of_lt_of_le}
use native.Mathlib.Decide.{dec_lt}
use native.Mathlib.Omega.{arith}
use lib.Dec.{lit<}
use lib.Pow.{pow_mono}
use lib.ListN.{length, take, drop, get_or, length-take, length-drop, drop_of_length-le, get_or-eq_default}
use lib.Seq.{drop-cons, get_or-drop, take_at, drop_at}
use mir.Val.{Fits}
use mir.Syntax.{w8}
use Rattle.words.proofs.Digits.{length_digits, number_lt, digits_number, number_digits}
use Rattle.words.proofs.Parts.{length_part, get_or_part}
use Rattle.wire.specs.Bytes.{Bytes, le, num, bytes_of}

pub le_lt : (l : List ℕ) → Bytes l → le l < 2 ^ (8 * length l)
le_lt = number_lt 8

pub bytes_part : (s : List ℕ) (at k : ℕ) → Bytes s → Bytes (take k (drop at s))
bytes_part s at k f i = go (dec_lt i k)
  where
    go : Dec (i < k) → get_or (take k (drop at s)) i 0 < 256
    go (yes l) = subst (λ (n : ℕ). n < 256) (sym (get_or_part at k s i l)) (f (at + i))
    go (no l) = subst (λ (n : ℕ). n < 256) (sym (get_or-eq_default (take k (drop at s)) 0 {n = i} (omega (arith, length-take k (drop at s))))) (lit< tt)

pub bytes_drop : (s : List ℕ) (i : ℕ) → Bytes s → Bytes (drop i s)
bytes_drop s i f j = subst (λ (n : ℕ). n < 256) (sym (get_or-drop i s j 0)) (f (i + j))

pub num_lt : (k p : ℕ) (b : List ℕ) → Bytes b → num k p b < 2 ^ (8 * k)
unfolding num
num_lt k p b f =
    lt_of_lt_of_le (le_lt (take k (drop p b)) (bytes_part b p k f)) (pow_mono {i = 8 * length (take k (drop p b))} {j = 8 * k} (omega (arith, length-take k (drop p b))))

-- a loop that reads k bytes, the last first
module _ (s : List ℕ) (at k : ℕ) (fits : (j : ℕ) → Fits w8 (get_or s j 0)) (h : at + k ≤ length s) where
  abbrev B : List ℕ
  B = take k (drop at s)

  lB : length B ≡ k
  lB = length_part at k s h

  pub number_start : 0 ≡ le (drop k B)
  number_start = ap le (sym (drop_of_length-le B {i = k} (omega (arith, lB))))

  pub number_turn : (i x : ℕ) → 0 < i → i ≤ k → x ≡ le (drop i B) → x * 256 + get_or s (at + (i - 1)) 0 ≡ le (drop (i - 1) B)
  number_turn i x p q e =
      let b : suc (i - 1) ≡ i = omega arith in
      let here : i - 1 < k = omega arith in
      sym
      (ap le (drop-cons B (i - 1) 0 (omega (arith, lB)))
      ∙ ap₂ (λ (l : List ℕ) (y : ℕ). le l * 256 + y) (ap (λ (j : ℕ). drop j B) b) (get_or_part at k s (i - 1) here)
      ∙ ap (λ (n : ℕ). n * 256 + get_or s (at + (i - 1)) 0) (sym e))

  pub number_small : (i x : ℕ) → 0 < i → i ≤ k → k ≤ 8 → x ≡ le (drop i B) → x < 2 ^ 56
  number_small i x p q r e =
      let l : le (drop i B) < 2 ^ (8 * length (drop i B)) = le_lt (drop i B) (bytes_drop B i (bytes_part s at k (λ j. (fits j).fits))) in
      let n : length (drop i B) ≡ k - i = length-drop i B ∙ ap (λ (j : ℕ). j - i) lB in
      lt_of_lt_of_le (subst (λ (y : ℕ). y < 2 ^ (8 * length (drop i B))) (sym e) l) (pow_mono {i = 8 * length (drop i B)} {j = 56} (omega arith))

  pub number_done : (i x : ℕ) → i ≡ 0 → x ≡ le (drop i B) → x ≡ num k at s
  unfolding num
  number_done i x z e = e ∙ ap (λ (j : ℕ). le (drop j B)) z

-- ---- written and read back

pub length_bytes : (k x : ℕ) → length (bytes_of k x) ≡ k
unfolding bytes_of
length_bytes = length_digits 8

pub bytes_le : (l : List ℕ) → Bytes l → bytes_of (length l) (le l) ≡ l
unfolding bytes_of
bytes_le = digits_number 8

pub bytes_num : (k p : ℕ) (b : List ℕ) → Bytes b → p + k ≤ length b → bytes_of k (num k p b) ≡ take k (drop p b)
unfolding num
bytes_num k p b f h =
    let l : length (take k (drop p b)) ≡ k = length_part p k b h in
    ap (λ (j : ℕ). bytes_of j (le (take k (drop p b)))) (sym l) ∙ bytes_le (take k (drop p b)) (bytes_part b p k f)

pub le_bytes : (k x : ℕ) → x < 2 ^ (8 * k) → le (bytes_of k x) ≡ x
unfolding bytes_of
le_bytes = number_digits 8

-- a number that stands after q bytes
pub num_at : (k q x : ℕ) (pre rest : List ℕ) → length pre ≡ q → x < 2 ^ (8 * k) → num k q (pre ++ (bytes_of k x ++ rest)) ≡ x
unfolding num
num_at k q x pre rest e h =
    ap (λ (l : List ℕ). le (take k l)) (drop_at pre (bytes_of k x ++ rest) q e) ∙ ap le (take_at (bytes_of k x) rest k (length_bytes k x)) ∙ le_bytes k x h
