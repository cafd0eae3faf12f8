-- The words of a row whose only one is in column c.
use mathlib.Core.Path.{◌≡◌, sym, ap, ◌∙◌}
use mathlib.Core.Logic.{◌≢◌}
use Prim.Native.Nat.{ℕ, ◌+◌, ◌-◌, ◌*◌, ◌/◌, ◌%◌, ◌^◌, ◌<◌}
use native.Mathlib.Decide.{dec_lt}
use native.Mathlib.Nat.{one-mul, mul-mod_left, div-eq_of_lt}
use native.Mathlib.Omega.{arith}
use lib.Pow.{pow-add, pow-lt, shl-shr}
use Rattle.words.specs.Words.{window_bits}

-- 2 ^ c without its a lowest columns
unit_shift : (a b c : ℕ) → b + a ≡ c → 2 ^ c / 2 ^ a ≡ 2 ^ b
unit_shift a b c e = ap (λ (x : ℕ). x / 2 ^ a) (ap (λ (k : ℕ). 2 ^ k) (sym e) ∙ pow-add 2 b a) ∙ shl-shr (2 ^ b) a

module _ (c l : ℕ) where
  pub unit_here : c / 64 ≡ l → 1 * 2 ^ (c % 64) % 18446744073709551616 ≡ window_bits (64 * l) 64 (2 ^ c)
  unit_here h =
      let e : c % 64 + 64 * l ≡ c = omega arith in
      ap (λ (x : ℕ). x % 2 ^ 64) (one-mul (2 ^ (c % 64)) ∙ sym (unit_shift (64 * l) (c % 64) c e))

  pub unit_elsewhere : c / 64 ≢ l → 0 ≡ window_bits (64 * l) 64 (2 ^ c)
  unit_elsewhere h = sym (go (dec_lt c (64 * l)))
    where
      go : Dec (c < 64 * l) → window_bits (64 * l) 64 (2 ^ c) ≡ 0
      go (yes k) = ap (λ (x : ℕ). x % 2 ^ 64) (div-eq_of_lt (pow-lt k))
      go (no k) =
          let d : ℕ = c - 64 * l - 64 in
          let e : d + 64 + 64 * l ≡ c = omega arith in
          ap (λ (x : ℕ). x % 2 ^ 64) (unit_shift (64 * l) (d + 64) c e ∙ pow-add 2 d 64) ∙ mul-mod_left (2 ^ d) (2 ^ 64)
