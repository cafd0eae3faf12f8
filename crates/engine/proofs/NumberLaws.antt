-- Bytes read row by row, and the numbers that name each row's table row.
use mathlib.Core.Path.{◌≡◌, refl, sym, ap, ◌∙◌}
use mathlib.Core.List.{List}
use mathlib.Core.Logic.{◌⊎◌, inl, inr}
use Prim.Native.Nat.{ℕ, ◌+◌, ◌-◌, ◌^◌, ◌<◌, ◌≤◌}
use native.Mathlib.Decide.{dec_lt, ℕ_discrete}
use native.Mathlib.Omega.{arith}
use lib.ListN.{length, get_or, set}
use lib.Pow.{pow_pos, pow_mono}
use lib.Bits.{bit_or}
use lib.Seq.{get_or-set_same, get_or-set_other}
use Rattle.std.specs.List.{between}
use Rattle.std.proofs.lemmas.List.Edits.{get_or-between}
use Rattle.gf2.specs.Rows.{bit, row}
use Rattle.words.specs.Words.{window_bits}
use Rattle.method.proofs.WindowBits.{bit_window, window_lt}
use Rattle.engine.specs.Stage.{WindowPivots, Gathered, Numbers, Union}
use Rattle.engine.proofs.ByteLaws.{none_of}

-- a window's bits fit a byte
pub byte_lt : (c k v : ℕ) → k ≤ 8 → window_bits c k v < 256
byte_lt c k v h = omega (arith, window_lt c k v, pow_mono {i = k} {j = 8} h)

-- ---- reading

-- places `from` to i - 1 have what f says, those from `to` on what they had, and u is the union of the former
pub record Reading (f : ℕ → ℕ) (from to i : ℕ) (h₀ h : List ℕ) (u : ℕ) : Type 0 where
  pub done : (j : ℕ) → from ≤ j → j < i → get_or h j 0 ≡ f j
  pub rest : (j : ℕ) → to ≤ j → get_or h j 0 ≡ get_or h₀ j 0
  pub union : Union i from h u

pub reading_start : (f : ℕ → ℕ) (from to : ℕ) (h : List ℕ) → Reading f from to from h h 0
reading_start f from to h = record { done = λ j a l. absurd (omega arith); rest = λ j a. refl; union = λ j y a l e. absurd (omega arith) }

pub reading_more : (f : ℕ → ℕ) (from to i : ℕ) (h₀ h : List ℕ) (u b : ℕ) → i < length h → i < to → b ≡ f i → Reading f from to i h₀ h u
    → Reading f from to (i + 1) h₀ (set h i b) (bit_or u b)
reading_more f from to i h₀ h u b hi ht e R = record {
  done = λ j a l. done j a l (ℕ_discrete j i);
  rest = λ j a. get_or-set_other h i j b 0 (omega arith) ∙ R.rest j a;
  union = λ j y a l z. union j y a l z (ℕ_discrete j i);
}
  where
    done : (j : ℕ) → from ≤ j → j < i + 1 → Dec (j ≡ i) → get_or (set h i b) j 0 ≡ f j
    done j a l (yes g) = rw (g, get_or-set_same h i b 0 hi) e
    done j a l (no n) = get_or-set_other h i j b 0 n ∙ R.done j a (omega arith)

    union : (j y : ℕ) → from ≤ j → j < i + 1 → bit y (bit_or u b) ≡ 0 → Dec (j ≡ i) → bit y (get_or (set h i b) j 0) ≡ 0
    union j y a l z (yes g) = rw (g, get_or-set_same h i b 0 hi) (none_of y u b z).1
    union j y a l z (no n) = rw (get_or-set_other h i j b 0 n) (R.union j y a (omega arith) (none_of y u b z).0)

-- ---- numbers

-- h has the window's bits of all rows but the window's pivot rows
module _ (n c k base r : ℕ) (M h cols : List ℕ) (m : WindowPivots c k base r cols)
    (low : (i : ℕ) → i < base → get_or h i 0 ≡ window_bits c k (row M i)) (high : (i : ℕ) → base + r ≤ i → i < n → get_or h i 0 ≡ window_bits c k (row M i)) where
  has : (i : ℕ) → i < n → (i < base) ⊎ (base + r ≤ i) → get_or h i 0 ≡ window_bits c k (row M i)
  has i l (inl a) = low i a
  has i l (inr a) = high i a l

  -- if every column of the window has its pivot, the bits themselves are the number
  pub bits_name : r ≡ k → (i : ℕ) → i < n → (i < base) ⊎ (base + r ≤ i) → Gathered c r (between base (base + r) cols) (get_or h i 0) (get_or h i 0)
  bits_name e i l out = record {
    small = rw (has i l out, e) (window_lt c k (row M i));
    named = λ b a q d. let g : b ≡ q = omega (arith, d, m.full e b a, get_or-between cols base (base + r) b 0 (omega arith)) in ap (λ (y : ℕ). bit y (get_or h i 0)) g;
  }

  -- g has the numbers that the bits name, and p the same but 0 for the window's pivot rows
  pub numbers_named : (g p : List ℕ) → ((i : ℕ) → i < n → (i < base) ⊎ (base + r ≤ i) → Gathered c r (between base (base + r) cols) (get_or h i 0) (get_or g i 0))
      → ((i : ℕ) → base ≤ i → i < base + r → get_or p i 0 ≡ 0) → ((i : ℕ) → i < base → get_or p i 0 ≡ get_or g i 0) → ((i : ℕ) → base + r ≤ i → get_or p i 0 ≡ get_or g i 0)
      → Numbers n base r M p cols
  numbers_named g p gathered zeros before behind = record { small = λ i l. small i l (dec_lt i base) (dec_lt i (base + r)); own = zeros; named = named }
    where
      kept : (i : ℕ) → (i < base) ⊎ (base + r ≤ i) → get_or p i 0 ≡ get_or g i 0
      kept i (inl a) = before i a
      kept i (inr a) = behind i a

      small : (i : ℕ) → i < n → Dec (i < base) → Dec (i < base + r) → get_or p i 0 < 2 ^ r
      small i l (yes a) d = rw (before i a) (gathered i l (inl a)).small
      small i l (no a) (yes b) = rw (zeros i (omega arith) b) (pow_pos r)
      small i l (no a) (no b) = rw (behind i (omega arith)) (gathered i l (inr (omega arith))).small

      named : (i b : ℕ) → i < n → (i < base) ⊎ (base + r ≤ i) → b < r → bit b (get_or p i 0) ≡ bit (get_or cols (base + b) 0) (row M i)
      named i b l out hb =
          let q : ℕ = get_or cols (base + b) 0 - c in
          let e : c + q ≡ get_or cols (base + b) 0 = omega (arith, m.low b hb) in
          let hq : q < k = omega (arith, m.low b hb, m.high b hb) in
          ap (bit b) (kept i out) ∙ (gathered i l out).named b hb q (e ∙ sym (get_or-between cols base (base + r) b 0 (omega arith)))
          ∙ ap (bit q) (has i l out) ∙ bit_window c k q (row M i) hq ∙ ap (λ (x : ℕ). bit x (row M i)) e
