-- The first one of a row, as `next_one` finds it, is its pivot: so it tells whether the pivot stands in given columns, and together with the one after it
-- whether the row's first columns hold no other.
use mathlib.Core.Path.{◌≡◌, sym, ap, ◌∙◌}
use mathlib.Core.Logic.{◌≢◌, ◌⊎◌, inl, inr}
use mathlib.Core.Bool.{Bool, true, false, true≢false, not, ◌&&◌}
use Prim.Native.Nat.{ℕ, ◌+◌, ◌%◌, ◌^◌, ◌≤◌, ◌<◌}
use native.Mathlib.Decide.{ℕ_discrete, dec_lt}
use native.Mathlib.Omega.{arith}
use borrow.Author.Tests.{eqb-true, eqb-false, eq-eqb, ne_eqb, le-leb, lt-leb, lt-ltb, le-ltb, ltb-true, ltb-false}
use lib.Dec.{eqb, leb, ltb}
use Rattle.std.specs.Prelude.{Option, None, Some, MatchOption}
use Rattle.gf2.specs.Rows.{bit}
use Rattle.gf2.specs.Reduced.{Pivot}
use Rattle.gf2.proofs.Bits.{bit_ext, bit_mod, bit_mod_above, bit_pow, bit_pow_other}
use Rattle.gf2.proofs.Pivot.{pivot_unique, pivot_pow, pivot_uncut}
use Rattle.images.specs.ReadOff.{inside}
use Rattle.images.proofs.Found.{Inside, inside_cases}
use Rattle.readoff.specs.Steps.{IsNext, NextOne, HasOne}

-- a row of zeros has no pivot
module _ (v : ℕ) (f : NextOne 0 v None) where
  pub none_inside : (a e : ℕ) → inside a e v ≡ false
  none_inside a e = go (inside_cases a e v)
    where
      go : ((inside a e v ≡ true) × Inside a e v) ⊎ ((inside a e v ≡ false) × (Inside a e v → ⊥)) → inside a e v ≡ false
      go (inr t) = t.0
      go (inl (_, (p, g, _, _))) = absurd (omega (arith, f p (omega arith), g.one))

  pub none_unit : (n j : ℕ) → j < n → v % 2 ^ n ≢ 2 ^ j
  none_unit n j small e = omega (arith, f j (omega arith), (pivot_uncut n j v small (rw e (pivot_pow j))).one)

-- a further one past column j
pub unit_more : (n v j : ℕ) → HasOne (j + 1) n v true → v % 2 ^ n ≢ 2 ^ j
unit_more n v j (q, h, l, one) e =
    let none : bit q v ≡ 0 = sym (bit_mod q n v l) ∙ ap (bit q) e ∙ bit_pow_other q j (omega (arith, h)) in
    omega (arith, one)

module _ (v q : ℕ) (f : IsNext 0 v q) where
  next_pivot : Pivot q v
  next_pivot = record { one = f.one; before = λ c h. f.zeros c (omega arith) h }

  pub inside_yes : (a e : ℕ) → a ≤ q → q < e → inside a e v ≡ true
  inside_yes a e h l = go (inside_cases a e v)
    where
      go : ((inside a e v ≡ true) × Inside a e v) ⊎ ((inside a e v ≡ false) × (Inside a e v → ⊥)) → inside a e v ≡ true
      go (inl t) = t.0
      go (inr t) = absurd (t.1 (q, next_pivot, h, l))

  pub inside_no : (a e : ℕ) → (a ≤ q → e ≤ q) → inside a e v ≡ false
  inside_no a e out = go (inside_cases a e v)
    where
      go : ((inside a e v ≡ true) × Inside a e v) ⊎ ((inside a e v ≡ false) × (Inside a e v → ⊥)) → inside a e v ≡ false
      go (inr t) = t.0
      go (inl (_, (p, g, h, l))) =
          let i : p ≡ q = pivot_unique p q v g next_pivot in
          absurd (omega (arith, out (omega arith)))

  pub next_inside : (a e : ℕ) → leb a q && ltb q e ≡ inside a e v
  next_inside a e = go (dec_lt q a) (dec_lt q e)
    where
      go : Dec (q < a) → Dec (q < e) → leb a q && ltb q e ≡ inside a e v
      go (yes h) _ = rw (lt-leb a q h) (sym (inside_no a e (λ k. absurd (omega arith))))
      go (no h) (yes l) =
          let k : a ≤ q = omega arith in
          rw (le-leb a q k, lt-ltb q e l) (sym (inside_yes a e k l))
      go (no h) (no l) =
          let k : a ≤ q = omega arith in
          let u : e ≤ q = omega arith in
          rw (le-leb a q k, le-ltb q e u) (sym (inside_no a e (λ _. u)))

  -- the first n columns hold a one in column j alone
  module _ (n j : ℕ) (small : j < n) where
    pub unit_elsewhere : q ≢ j → v % 2 ^ n ≢ 2 ^ j
    unit_elsewhere ne e = ne (sym (pivot_unique j q v (pivot_uncut n j v small (rw e (pivot_pow j))) next_pivot))

    pub unit_alone : q ≡ j → HasOne (j + 1) n v false → v % 2 ^ n ≡ 2 ^ j
    unit_alone e rest = bit_ext (v % 2 ^ n) (2 ^ j) (λ c. go c (dec_lt c n) (ℕ_discrete c j) (dec_lt c j))
      where
        go : (c : ℕ) → Dec (c < n) → Dec (c ≡ j) → Dec (c < j) → bit c (v % 2 ^ n) ≡ bit c (2 ^ j)
        go c (no h) _ _ = bit_mod_above n c v (omega arith) ∙ sym (bit_pow_other c j (omega arith))
        go c (yes h) (yes i) _ = bit_mod c n v h ∙ ap (λ (x : ℕ). bit x v) (i ∙ sym e) ∙ f.one ∙ sym (ap (λ (x : ℕ). bit x (2 ^ j)) i ∙ bit_pow j)
        go c (yes h) (no i) (yes k) = bit_mod c n v h ∙ f.zeros c (omega arith) (omega arith) ∙ sym (bit_pow_other c j i)
        go c (yes h) (no i) (no k) = bit_mod c n v h ∙ rest c (omega arith) h ∙ sym (bit_pow_other c j i)

-- ---- what the tests tell

pub stands : (v a e : ℕ) (b : Bool) (r : Option ℕ) → NextOne 0 v r → MatchOption r (b ≡ false) (λ q. b ≡ leb a q && ltb q e) → b ≡ inside a e v
stands v a e b None f t = t ∙ sym (none_inside v f a e)
stands v a e b (Some q) f t = t ∙ next_inside v q f a e

pub one_before : (v a e : ℕ) (b : Bool) (r : Option ℕ) → NextOne a v r → MatchOption r (b ≡ false) (λ q. b ≡ ltb q e) → HasOne a e v b
one_before v a e true None f t = absurd (true≢false t)
one_before v a e false None f t = λ q h l. f q h
one_before v a e true (Some q) f t = (q, f.from, ltb-true q e (sym t), f.one)
one_before v a e false (Some q) f t = λ i h l. f.zeros i h (omega (arith, ltb-false q e (sym t)))

module _ (v n j : ℕ) (small : j < n) (b : Bool) (r : Option ℕ) (f : NextOne 0 v r) (t : MatchOption r (b ≡ false) (λ q. b ≡ eqb q j)) where
  pub unit_first : b ≡ false → b ≡ eqb (v % 2 ^ n) (2 ^ j)
  unit_first e = e ∙ sym (ne_eqb (v % 2 ^ n) (2 ^ j) (go r f t))
    where
      go : (r : Option ℕ) → NextOne 0 v r → MatchOption r (b ≡ false) (λ q. b ≡ eqb q j) → v % 2 ^ n ≢ 2 ^ j
      go None f t = none_unit v f n j small
      go (Some q) f t = unit_elsewhere v q f n j small (eqb-false q j (sym t ∙ e))

  pub unit_second : b ≡ true → (more : Bool) → HasOne (j + 1) n v more → not more ≡ eqb (v % 2 ^ n) (2 ^ j)
  unit_second e more h = go r f t more h
    where
      go : (r : Option ℕ) → NextOne 0 v r → MatchOption r (b ≡ false) (λ q. b ≡ eqb q j) → (more : Bool) → HasOne (j + 1) n v more → not more ≡ eqb (v % 2 ^ n) (2 ^ j)
      go None f t more h = absurd (true≢false (sym e ∙ t))
      go (Some q) f t true h = sym (ne_eqb (v % 2 ^ n) (2 ^ j) (unit_more n v j h))
      go (Some q) f t false h = sym (eq-eqb (v % 2 ^ n) (2 ^ j) (unit_alone v q f n j small (eqb-true q j (sym t ∙ e)) h))
