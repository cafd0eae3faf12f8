-- The next one of a row, looked for word by word: l is the word of column q.
use mathlib.Core.Path.{◌≡◌, sym, ap, ap₂, ◌∙◌, subst}
use mathlib.Core.Logic.{◌≢◌}
use mathlib.Core.List.{List}
use Prim.Native.Nat.{ℕ, ◌+◌, ◌-◌, ◌*◌, ◌/◌, ◌%◌, ◌^◌, ◌≤◌, ◌<◌}
use native.Mathlib.Nat.{lt_of_le_of_lt}
use native.Mathlib.Decide.{dec_lt}
use native.Mathlib.Omega.{arith}
use lib.Count.{count_trailing_zeros}
use lib.ListN.{length, get_or, get_or-eq_default}
use lib.Pow.{shr_le, shr_lt}
use Rattle.gf2.specs.Rows.{bit}
use Rattle.gf2.specs.Reduced.{Pivot}
use Rattle.gf2.proofs.Bits.{bit_shr, bit_of_zero, bit_above}
use Rattle.gf2.proofs.Pivot.{trailing_pivot}
use Rattle.words.specs.Words.{Fit, value}
use Rattle.words.proofs.Value.{column_bit}
use Rattle.readoff.specs.Steps.{IsNext}

-- no one from column c up to column q
abbrev pub ZeroTo : ℕ → ℕ → ℕ → Type 0
ZeroTo c v q = (i : ℕ) → c ≤ i → i < q → bit i v ≡ 0

module _ (ws : List ℕ) (c q l : ℕ) (f : Fit ws) (from : c ≤ q) (e : q / 64 ≡ l) (z : ZeroTo c (value ws) q) where
  -- what the word holds from column q on
  abbrev x : ℕ
  x = get_or ws l 0 / 2 ^ (q % 64)

  word_bit : (i : ℕ) → q ≤ i → i / 64 ≡ l → bit i (value ws) ≡ bit (i - q) x
  word_bit i h k =
      let r : i % 64 ≡ q % 64 + (i - q) = omega arith in
      column_bit ws f i ∙ ap₂ (λ (n b : ℕ). bit b (get_or ws n 0)) k r ∙ sym (bit_shr (i - q) (q % 64) (get_or ws l 0))

  -- nothing: the next word is the next to be looked at
  pub next_word : get_or ws l 0 / 2 ^ (q % 64) ≡ 0 → ZeroTo c (value ws) (64 * (l + 1))
  next_word n i h k = go (dec_lt i q)
    where
      go : Dec (i < q) → bit i (value ws) ≡ 0
      go (yes b) = z i h b
      go (no b) = word_bit i (omega arith) (omega arith) ∙ ap (bit (i - q)) n ∙ bit_of_zero (i - q)

  -- something: its lowest one
  pub one_here : get_or ws l 0 / 2 ^ (q % 64) ≢ 0 → IsNext c (value ws) (q + count_trailing_zeros 64 (get_or ws l 0 / 2 ^ (q % 64)))
  one_here n =
      let t : ℕ = count_trailing_zeros 64 x in
      let p : Pivot t x = trailing_pivot 64 x (lt_of_le_of_lt (shr_le (get_or ws l 0) (q % 64)) (f l)) n in
      let d : 64 ≡ (64 - q % 64) + q % 64 = omega arith in
      let k : q % 64 + t < 64 = near t (shr_lt (64 - q % 64) (q % 64) (subst (λ (b : ℕ). get_or ws l 0 < 2 ^ b) d (f l))) p.one (dec_lt (q % 64 + t) 64) in
      let back : q + t - q ≡ t = omega arith in
      record {
        from = omega arith;
        zeros = λ i h b. go t p k i h b (dec_lt i q);
        one = word_bit (q + t) (omega arith) (omega arith) ∙ ap (λ (b : ℕ). bit b x) back ∙ p.one;
      }
    where
      near : (t : ℕ) → x < 2 ^ (64 - q % 64) → bit t x ≡ 1 → Dec (q % 64 + t < 64) → q % 64 + t < 64
      near t small o (yes k) = k
      near t small o (no k) = absurd (omega (arith, o, bit_above (64 - q % 64) t x small (omega arith)))

      go : (t : ℕ) → Pivot t x → q % 64 + t < 64 → (i : ℕ) → c ≤ i → i < q + t → Dec (i < q) → bit i (value ws) ≡ 0
      go t p k i h b (yes a) = z i h a
      go t p k i h b (no a) = word_bit i (omega arith) (omega arith) ∙ p.before (i - q) (omega arith)

  -- past the last word there is none
  pub none_left : length ws ≤ l → (i : ℕ) → c ≤ i → bit i (value ws) ≡ 0
  none_left h i k = go (dec_lt i q)
    where
      go : Dec (i < q) → bit i (value ws) ≡ 0
      go (yes b) = z i k b
      go (no b) = column_bit ws f i ∙ ap (bit (i % 64)) (get_or-eq_default ws 0 {n = i / 64} (omega arith)) ∙ bit_of_zero (i % 64)
