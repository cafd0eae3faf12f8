-- What is stored for a row is what the row says: by its first one, q, and the ones behind it.
use mathlib.Core.Path.{◌≡◌, refl}
use mathlib.Core.Logic.{◌≢◌}
use mathlib.Core.Bool.{Bool, true, false, cond}
use mathlib.Core.List.{List, ◌∷◌}
use Prim.Native.Nat.{ℕ, suc, ◌+◌, ◌*◌, ◌/◌, ◌%◌, ◌^◌, ◌≤◌, ◌<◌}
use native.Mathlib.Nat.{le_refl}
use native.Mathlib.Omega.{arith}
use borrow.Author.Tests.{eq-eqb, ne_eqb}
use lib.Dec.{eqb}
use lib.ListN.{length, set}
use lib.Seq.{paste}
use Rattle.std.specs.Prelude.{None}
use Rattle.gf2.specs.Rows.{one_if}
use Rattle.words.specs.Words.{first_words}
use Rattle.images.specs.ReadOff.{inside}
use Rattle.readoff.specs.ReadOff.{Shown}
use Rattle.readoff.specs.Steps.{IsNext, NextOne, HasOne}
use Rattle.readoff.proofs.Lead.{none_inside, inside_yes, inside_no, unit_more, unit_alone}
use Rattle.readoff.proofs.Saying.{shown_at, at_shown, nothing_said, said}

-- what the two answers of the test make of it
by_test : (b : Bool) (x unknown : ℕ) → (b ≡ false → (unknown ≡ cond b x unknown) × (0 ≡ one_if b)) × (b ≡ true → (x ≡ cond b x unknown) × (1 ≡ one_if b))
by_test b x unknown = ((λ e. rw e (refl, refl)), λ e. rw e (refl, refl))

module _ (unknown n v r : ℕ) (R image marks : List ℕ) (s : Shown unknown n v R image marks) where
  nothing : ((j : ℕ) → j < n → inside j (suc j) r ≡ false) → Shown unknown n v (r ∷ R) image marks
  nothing out = at_shown unknown n v (r ∷ R) image marks (nothing_said unknown n v r R image marks (shown_at unknown n v R image marks s) out)

  -- no pivot, or none among the coefficients
  pub tell_none : NextOne 0 r None → Shown unknown n v (r ∷ R) image marks
  tell_none f = nothing (λ j l. none_inside r f j (suc j))

  module _ (q : ℕ) (f : IsNext 0 r q) where
    pub tell_nothing : n ≤ q → Shown unknown n v (r ∷ R) image marks
    tell_nothing h = nothing (λ j l. inside_no r q f j (suc j) (λ _. omega arith))

    module _ (small : q < n) (image' marks' : List ℕ) (same : length image' ≡ length image) where
      here : inside q (suc q) r ≡ true
      here = inside_yes r q f q (suc q) (le_refl q) (omega arith)

      other : (i : ℕ) → i ≢ q → inside i (suc i) r ≡ false
      other i ne = inside_no r q f i (suc i) (λ h. omega arith)

      tell : (x y : ℕ) → image' ≡ paste image (q * v) (first_words v x) v → marks' ≡ set marks q y
          → x ≡ cond (eqb (r % 2 ^ n) (2 ^ q)) (r / 2 ^ n) unknown → y ≡ one_if (eqb (r % 2 ^ n) (2 ^ q)) → Shown unknown n v (r ∷ R) image' marks'
      tell x y ei em ex ey =
          at_shown unknown n v (r ∷ R) image' marks'
          (said unknown n v r R image marks (shown_at unknown n v R image marks s) q small here other x y image' marks' same ei em ex ey)

      pub tell_unknown : HasOne (q + 1) n r true → image' ≡ paste image (q * v) (first_words v unknown) v → marks' ≡ set marks q 0 → Shown unknown n v (r ∷ R) image' marks'
      tell_unknown h ei em =
          let e : eqb (r % 2 ^ n) (2 ^ q) ≡ false = ne_eqb (r % 2 ^ n) (2 ^ q) (unit_more n r q h) in
          let t = (by_test (eqb (r % 2 ^ n) (2 ^ q)) (r / 2 ^ n) unknown).0 e in
          tell unknown 0 ei em t.0 t.1

      pub tell_known : HasOne (q + 1) n r false → image' ≡ paste image (q * v) (first_words v (r / 2 ^ n)) v → marks' ≡ set marks q 1 → Shown unknown n v (r ∷ R) image' marks'
      tell_known h ei em =
          let e : eqb (r % 2 ^ n) (2 ^ q) ≡ true = eq-eqb (r % 2 ^ n) (2 ^ q) (unit_alone r q f n q small refl h) in
          let t = (by_test (eqb (r % 2 ^ n) (2 ^ q)) (r / 2 ^ n) unknown).1 e in
          tell (r / 2 ^ n) 1 ei em t.0 t.1
