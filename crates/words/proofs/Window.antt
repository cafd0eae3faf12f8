-- The k columns of a row from column c on, from the word that holds column c, or from that word and the next.
use mathlib.Core.Path.{◌≡◌, sym, ap, ap₂, ◌∙◌, subst}
use mathlib.Core.List.{List}
use Prim.Native.Nat.{ℕ, ◌+◌, ◌-◌, ◌*◌, ◌/◌, ◌%◌, ◌^◌, ◌<◌, ◌≤◌}
use native.Mathlib.Nat.{add-zero, mul-mod_left}
use native.Mathlib.Decide.{dec_lt}
use native.Mathlib.Omega.{arith}
use lib.Bits.{bit_and, bit_or, and_mask, or_shifted_r}
use lib.ListN.{get_or}
use lib.Pow.{low, high, shl-shr, shr_lt, mod-pow-add}
use Rattle.gf2.specs.Rows.{bit, part}
use Rattle.gf2.proofs.Bits.{bit_ext, bit_mod, bit_mod_above, bit_shr}
use Rattle.words.specs.Words.{Fit, value, window_bits}
use Rattle.words.proofs.Value.{part_bit}

-- the row is the w words from word a on
module _ (m : List ℕ) (a w c k : ℕ) (f : Fit m) where
  abbrev v : ℕ
  v = value (part a w m)

  -- the word of column c, and the next one
  abbrev x : ℕ
  x = get_or m (a + c / 64) 0

  abbrev y : ℕ
  y = get_or m (a + c / 64 + 1) 0

  abbrev s : ℕ
  s = c % 64

  -- a bit of the window is a bit of the word that it is in
  window_bit : (b i r : ℕ) → b < k → c + k ≤ w * 64 → a + (c + b) / 64 ≡ i → (c + b) % 64 ≡ r → bit b (window_bits c k v) ≡ bit r (get_or m i 0)
  window_bit b i r l h ei er =
      bit_mod b k (v / 2 ^ c) l ∙ bit_shr b c v ∙ part_bit m a w (c + b) f (omega arith) ∙ ap₂ (λ (p q : ℕ). bit p (get_or m q 0)) er ei

  pub window_one : c + k ≤ w * 64 → c % 64 + k ≤ 64 → bit_and (get_or m (a + c / 64) 0 / 2 ^ (c % 64)) (2 ^ k - 1) ≡ window_bits c k (value (part a w m))
  window_one h near = and_mask (x / 2 ^ s) k ∙ bit_ext (window_bits s k x) (window_bits c k v) (λ b. go b (dec_lt b k))
    where
      go : (b : ℕ) → Dec (b < k) → bit b (window_bits s k x) ≡ bit b (window_bits c k v)
      go b (yes l) = bit_mod b k (x / 2 ^ s) l ∙ bit_shr b s x ∙ sym (window_bit b (a + c / 64) (s + b) l h (omega arith) (omega arith))
      go b (no l) = bit_mod_above k b (x / 2 ^ s) (omega arith) ∙ sym (bit_mod_above k b (v / 2 ^ c) (omega arith))

  -- what the two words hold from column c on
  abbrev both : ℕ
  both = y % 2 ^ s * 2 ^ (64 - s) + x / 2 ^ s

  pub window_two : c + k ≤ w * 64 → k ≤ 64 → 64 < c % 64 + k
      → bit_and (bit_or (get_or m (a + c / 64) 0 / 2 ^ (c % 64)) (get_or m (a + c / 64 + 1) 0 * 2 ^ (64 - c % 64) % 18446744073709551616)) (2 ^ k - 1) ≡ window_bits c k (value (part a w m))
  window_two h hk far =
      let d : ℕ = 64 - s in
      let sd : s + d ≡ 64 = omega arith in
      let ds : 64 ≡ d + s = omega arith in
      let up : y * 2 ^ d % 2 ^ 64 ≡ y % 2 ^ s * 2 ^ d =
      ap (λ (e : ℕ). y * 2 ^ d % 2 ^ e) (sym sd) ∙ mod-pow-add (y * 2 ^ d) s d
      ∙ ap₂ (λ (p q : ℕ). p % 2 ^ s * 2 ^ d + q) (shl-shr y d) (mul-mod_left y (2 ^ d)) ∙ add-zero (y % 2 ^ s * 2 ^ d) in
      let small : x / 2 ^ s < 2 ^ d = shr_lt d s (subst (λ (e : ℕ). x < 2 ^ e) ds (f (a + c / 64))) in
      and_mask (bit_or (x / 2 ^ s) (y * 2 ^ d % 2 ^ 64)) k
      ∙ ap (λ (n : ℕ). n % 2 ^ k) (ap (bit_or (x / 2 ^ s)) up ∙ or_shifted_r (y % 2 ^ s) d (x / 2 ^ s) small)
      ∙ bit_ext (both % 2 ^ k) (window_bits c k v) (λ b. go b small (dec_lt b k) (dec_lt (s + b) 64))
    where
      go : (b : ℕ) → x / 2 ^ s < 2 ^ (64 - s) → Dec (b < k) → Dec (s + b < 64) → bit b (both % 2 ^ k) ≡ bit b (window_bits c k v)
      go b small (yes l) (yes near) =
          bit_mod b k both l ∙ sym (bit_mod b (64 - s) both (omega arith)) ∙ ap (bit b) (low (y % 2 ^ s) (64 - s) small) ∙ bit_shr b s x
          ∙ sym (window_bit b (a + c / 64) (s + b) l h (omega arith) (omega arith))
      go b small (yes l) (no over) =
          let e : (64 - s) + (b - (64 - s)) ≡ b = omega arith in
          bit_mod b k both l ∙ ap (λ (i : ℕ). bit i both) (sym e) ∙ sym (bit_shr (b - (64 - s)) (64 - s) both)
          ∙ ap (bit (b - (64 - s))) (high (y % 2 ^ s) (64 - s) small)
          ∙ bit_mod (b - (64 - s)) s y (omega arith)
          ∙ sym (window_bit b (a + c / 64 + 1) (b - (64 - s)) l h (omega arith) (omega arith))
      go b small (no l) _ = bit_mod_above k b both (omega arith) ∙ sym (bit_mod_above k b (v / 2 ^ c) (omega arith))
