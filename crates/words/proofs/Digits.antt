-- Digits of any width: how many there are, how large the number is, and that it is read back as it was written.
use mathlib.Core.Path.{◌≡◌, refl, sym, ap, ap₂, ◌∙◌, subst}
use mathlib.Core.List.{List, [], ◌∷◌}
use Prim.Native.Nat.{ℕ, zero, suc, ◌+◌, ◌*◌, ◌/◌, ◌%◌, ◌^◌, ◌<◌}
use native.Mathlib.Nat.{mod-lt, mul-zero, mul-suc, div-add-mod'}
use native.Mathlib.Omega.{arith}
use lib.ListN.{length}
use lib.Pow.{pow-add, pow_pos, shr_lt}
use lib.Arith.{digits_lt, digits_mod, digits_div}
use Rattle.words.specs.Words.{FitBits, of_digits, digits_of}

module _ (b : ℕ) where
  pub length_digits : (n v : ℕ) → length (digits_of b n v) ≡ n
  length_digits zero v = refl
  length_digits (suc n) v = ap suc (length_digits n (v / 2 ^ b))

  pub fit_digits : (n v : ℕ) → FitBits b (digits_of b n v)
  fit_digits zero v i = pow_pos b
  fit_digits (suc n) v zero = mod-lt v (pow_pos b)
  fit_digits (suc n) v (suc i) = fit_digits n (v / 2 ^ b) i

  pub number_lt : (xs : List ℕ) → FitBits b xs → of_digits b xs < 2 ^ (b * length xs)
  number_lt [] f = pow_pos (b * 0)
  number_lt (x ∷ xs) f = rw (mul-suc b (length xs), pow-add 2 (b * length xs) b) (digits_lt (number_lt xs (λ i. f (suc i))) (f 0))

  pub digits_number : (xs : List ℕ) → FitBits b xs → digits_of b (length xs) (of_digits b xs) ≡ xs
  digits_number [] f = refl
  digits_number (x ∷ xs) f =
      ap₂ ◌∷◌ (digits_mod (of_digits b xs) (f 0)) (ap (digits_of b (length xs)) (digits_div (of_digits b xs) (f 0)) ∙ digits_number xs (λ i. f (suc i)))

  -- a number of no more digits is written whole
  pub number_digits : (n v : ℕ) → v < 2 ^ (b * n) → of_digits b (digits_of b n v) ≡ v
  number_digits zero v h =
      let z : v < 1 = subst (λ (e : ℕ). v < 2 ^ e) (mul-zero b) h in
      omega arith
  number_digits (suc n) v h =
      ap (λ (x : ℕ). x * 2 ^ b + v % 2 ^ b) (number_digits n (v / 2 ^ b) (shr_lt (b * n) b (subst (λ (k : ℕ). v < 2 ^ k) (mul-suc b n) h)))
      ∙ div-add-mod' v (2 ^ b)

  -- the number and the length fix the digits
  pub one_number : (xs ys : List ℕ) → FitBits b xs → FitBits b ys → length xs ≡ length ys → of_digits b xs ≡ of_digits b ys → xs ≡ ys
  one_number xs ys f g l e = sym (digits_number xs f) ∙ ap₂ (digits_of b) l e ∙ digits_number ys g
