-- The two halves of a matrix, row by row: the identity on the left, and what is copied from the right.
use mathlib.Core.Path.{◌≡◌, refl, sym, ap, ◌∙◌}
use mathlib.Core.Bool.{Bool, true, false}
use mathlib.Core.List.{List}
use mathlib.Core.Logic.{◌≢◌}
use Prim.Native.Nat.{ℕ, ◌+◌, ◌*◌, ◌/◌, ◌%◌, ◌^◌, ◌<◌}
use native.Mathlib.Omega.{arith}
use native.Mathlib.Decide.{dec_lt}
use lib.Dec.{T, eqb}
use lib.ListN.{length, length-map}
use lib.Seq.{paste}
use borrow.Author.Tests.{eqb-true, eqb-false}
use Rattle.gf2.specs.Rows.{row, part}
use Rattle.gf2.specs.Inverse.{left_of, right_of, begins_with_identity}
use Rattle.gf2.proofs.Inverse.{begins_true, left_row, right_row}
use Rattle.gf2.proofs.Products.{tabulate_row, is_tabulate}
use Rattle.words.specs.Words.{first_words, flat, value, rows_of}
use Rattle.words.proofs.Ranges.{EachBelow}
use Rattle.words.proofs.Rows.{get_or_rows}
use Rattle.readoff.proofs.Laid.{Laid, stored, laid_flat}

-- ---- the identity

true_is : (b : Bool) → T b → true ≡ b
true_is true t = refl
true_is false t = absurd t

false_is : (b : Bool) → (T b → ⊥) → false ≡ b
false_is true k = absurd (k tt)
false_is false k = refl

pub units_begin : (R : List ℕ) (b : Bool) → EachBelow (length R) b (λ i. row R i % 2 ^ length R ≡ 2 ^ i) → b ≡ begins_with_identity (length R) R
units_begin R true h =
    let n : ℕ = length R in
    let e = is_tabulate (left_of n R) n (λ i. 2 ^ i) (length-map R (λ v. v % 2 ^ n)) (λ i l. left_row n R i ∙ h i l) in
    true_is (begins_with_identity n R) ((begins_true n R).1 e)
units_begin R false h =
    let n : ℕ = length R in
    false_is (begins_with_identity n R)
    (λ t. h.2 (sym (left_row n R h.0) ∙ ap (λ (M : List ℕ). row M h.0) ((begins_true n R).0 t) ∙ tabulate_row n (λ i. 2 ^ i) h.0 h.1))

module _ (n : ℕ) (R : List ℕ) where
  begins_units : (i : ℕ) → i < n → row R i % 2 ^ n ≢ 2 ^ i → T (begins_with_identity n R) → ⊥
  begins_units i l ne t = ne (sym (left_row n R i) ∙ ap (λ (M : List ℕ). row M i) ((begins_true n R).0 t) ∙ tabulate_row n (λ i. 2 ^ i) i l)

module _ (n w : ℕ) (m : List ℕ) (i : ℕ) (hi : i < n) where
  pub unit_fails : eqb (value (part (i * w) w m) % 2 ^ n) (2 ^ i) ≡ false → false ≡ begins_with_identity n (rows_of w n m)
  unit_fails e =
      let ne : row (rows_of w n m) i % 2 ^ n ≢ 2 ^ i =
      λ s. eqb-false (value (part (i * w) w m) % 2 ^ n) (2 ^ i) e (ap (λ (v : ℕ). v % 2 ^ n) (sym (get_or_rows w n m i hi)) ∙ s) in
      false_is (begins_with_identity n (rows_of w n m)) (begins_units n (rows_of w n m) i hi ne)

  pub unit_turn : ((j : ℕ) → j < i → row (rows_of w n m) j % 2 ^ n ≡ 2 ^ j) → eqb (value (part (i * w) w m) % 2 ^ n) (2 ^ i) ≡ true
      → (j : ℕ) → j < i + 1 → row (rows_of w n m) j % 2 ^ n ≡ 2 ^ j
  unit_turn done e j h = go (dec_lt j i)
    where
      go : Dec (j < i) → row (rows_of w n m) j % 2 ^ n ≡ 2 ^ j
      go (yes l) = done j l
      go (no l) =
          let s : j ≡ i = omega arith in
          ap (λ (k : ℕ). row (rows_of w n m) k % 2 ^ n) s ∙ ap (λ (v : ℕ). v % 2 ^ n) (get_or_rows w n m i hi)
          ∙ eqb-true (value (part (i * w) w m) % 2 ^ n) (2 ^ i) e ∙ ap (λ (k : ℕ). 2 ^ k) (sym s)

-- ---- row i of the right half

module _ (n v : ℕ) (R d : List ℕ) where
  pub right_turn : (i : ℕ) → i < n → length d ≡ n * v → Laid v i (λ j. row R j / 2 ^ n) d → (u : ℕ) (d' : List ℕ) → u ≡ row R i
      → d' ≡ paste d (i * v) (first_words v (u / 2 ^ n)) v → Laid v (i + 1) (λ j. row R j / 2 ^ n) d'
  right_turn i hi hd done u d' eu e =
      stored v n (i + 1) (λ j. row R j / 2 ^ n) d d' i (u / 2 ^ n) hi (omega arith) hd e (ap (λ (x : ℕ). x / 2 ^ n) eu) (λ j h ne. done j (omega arith))

  pub right_done : length R ≡ n → length d ≡ n * v → Laid v n (λ j. row R j / 2 ^ n) d → d ≡ flat v (right_of n R)
  right_done size l h =
      laid_flat v n (λ j. row R j / 2 ^ n) d l h
      ∙ ap (flat v) (sym (is_tabulate (right_of n R) n (λ j. row R j / 2 ^ n) (length-map R (λ u. u / 2 ^ n) ∙ size) (λ j _. right_row n R j)))
