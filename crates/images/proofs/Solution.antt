-- The images that a reduced list without a pivot in the payload gives: one with every free block zero, and others that differ from it along a free column.
use mathlib.Core.Path.{◌≡◌, sym, ap, ap₂, ◌∙◌}
use mathlib.Core.Logic.{◌≢◌, ◌⊎◌, inl, inr}
use mathlib.Core.List.{List}
use Prim.Native.Nat.{ℕ, suc, ◌+◌, ◌/◌, ◌%◌, ◌^◌, ◌<◌}
use native.Mathlib.Decide.{ℕ_discrete, dec_lt}
use native.Mathlib.Nat.{zero-mod, zero-div}
use native.Mathlib.Omega.{arith}
use lib.Bits.{differ, xor_zero_l, xor_zero_r, xor_self, xor_lt}
use lib.Pow.{pow_pos, pow_mono, shr_lt}
use Rattle.gf2.specs.Rows.{bit, ◌⊕◌, row, pick, combine, tabulate}
use Rattle.gf2.specs.Reduced.{Pivot, Reduced}
use Rattle.gf2.proofs.Bits.{bit_lt, bit_cases, bit_of_zero, bit_xor, bit_mod, bit_mod_above, bit_pow, bit_pow_other, differ_zero, xor_cancel, eq_of_xor}
use Rattle.gf2.proofs.Space.{pick_zero, combine_zero, combine_none, combine_only}
use Rattle.gf2.proofs.Pivot.{pivot_cases, pivot_unique}
use Rattle.gf2.proofs.Reduced.{pivot_row_lem}
use Rattle.gf2.proofs.Products.{tabulate_row, tabulate_past, tabulate_length, tabulate_each, combine_tabulate_xor}
use Rattle.images.specs.Packets.{payload, Image, Meets, MeetsAll}
use Rattle.images.specs.ReadOff.{pivot_row, PivotIn, NoPivotIn}
use Rattle.images.proofs.Found.{found_cases}

-- the row whose pivot is j, or zero
abbrev pub row_of : List ℕ → ℕ → ℕ
row_of R j = pivot_row j (suc j) R

found_pivot : (R : List ℕ) (j : ℕ) → (t : PivotIn j (suc j) R) → Pivot j (row R t.at)
found_pivot R j t = let e : t.column ≡ j = omega (arith, t.from, t.to) in rw e at t.pivot

-- a row by itself
pub row_of_row : (R : List ℕ) → Reduced R → (i p : ℕ) → Pivot p (row R i) → row_of R p ≡ row R i
row_of_row R hR i p f = go (found_cases p (suc p) R)
  where
    go : NoPivotIn p (suc p) R ⊎ PivotIn p (suc p) R → row_of R p ≡ row R i
    go (inl m) = absurd (m.none i p f (omega arith) (omega arith))
    go (inr t) = t.is ∙ ap (row R) (pivot_row_lem R hR i t.at p f (found_pivot R p t))

-- it is zero, or a row of R with pivot j
pub row_of_cases : (R : List ℕ) (j : ℕ) → (row_of R j ≡ 0) ⊎ ((i : ℕ) × Pivot j (row R i) × (row_of R j ≡ row R i))
row_of_cases R j = go (found_cases j (suc j) R)
  where
    go : NoPivotIn j (suc j) R ⊎ PivotIn j (suc j) R → (row_of R j ≡ 0) ⊎ ((i : ℕ) × Pivot j (row R i) × (row_of R j ≡ row R i))
    go (inl m) = inl m.is
    go (inr t) = inr (t.at, found_pivot R j t, t.is)

-- a block that is one bit: 1 for block f, and 0 for the others
combine_unit : (n f c : ℕ) → f < n → combine c (tabulate n (λ j. bit j (2 ^ f))) ≡ bit f c
unfolding pick
combine_unit n f c l = go (bit_cases f c)
  where
    X : List ℕ
    X = tabulate n (λ j. bit j (2 ^ f))

    off : (j : ℕ) → j ≢ f → row X j ≡ 0
    off j m = at (dec_lt j n)
      where
        at : Dec (j < n) → row X j ≡ 0
        at (yes h) = tabulate_row n (λ j. bit j (2 ^ f)) j h ∙ bit_pow_other j f m
        at (no h) = tabulate_past n (λ j. bit j (2 ^ f)) j (omega arith)

    every : bit f c ≡ 0 → (j : ℕ) → Dec (j ≡ f) → pick (bit j c) (row X j) ≡ 0
    every e j (yes i) = rw (i, e)
    every e j (no m) = rw (off j m) (pick_zero (bit j c))

    go : (bit f c ≡ 0) ⊎ (bit f c ≡ 1) → combine c X ≡ bit f c
    go (inl e) = combine_none c X (λ j. every e j (ℕ_discrete j f)) ∙ sym e
    go (inr e) = combine_only c f X e (λ j m. rw (off j m) (pick_zero (bit j c))) ∙ tabulate_row n (λ j. bit j (2 ^ f)) f l ∙ bit_pow f ∙ sym e

module _ (n : ℕ) (R : List ℕ) (hR : Reduced R) (low : (i q : ℕ) → Pivot q (row R i) → q < n) where
  -- blocks made by g of the rows with pivots: a row's coefficients sum to g of the row
  blocks_row : (g : ℕ → ℕ) → g 0 ≡ 0 → (i : ℕ) → combine (row R i % 2 ^ n) (tabulate n (λ j. g (row_of R j))) ≡ g (row R i)
  unfolding pick
  blocks_row g z i = go (pivot_cases (row R i))
    where
      X : List ℕ
      X = tabulate n (λ j. g (row_of R j))

      c : ℕ
      c = row R i % 2 ^ n

      go : (row R i ≡ 0) ⊎ ((p : ℕ) × Pivot p (row R i)) → combine c X ≡ g (row R i)
      go (inl e) = rw (e, zero-mod (2 ^ n), z) (combine_zero X)
      go (inr (p, f)) =
          combine_only c p X (bit_mod p n (row R i) (low i p f) ∙ f.one) (λ j m. other j m (dec_lt j n) (row_of_cases R j))
          ∙ tabulate_row n (λ j. g (row_of R j)) p (low i p f) ∙ ap g (row_of_row R hR i p f)
        where
          other : (j : ℕ) → j ≢ p → Dec (j < n) → (row_of R j ≡ 0) ⊎ ((k : ℕ) × Pivot j (row R k) × (row_of R j ≡ row R k)) → pick (bit j c) (row X j) ≡ 0
          other j m (no l) k = rw (tabulate_past n (λ j. g (row_of R j)) j (omega arith)) (pick_zero (bit j c))
          other j m (yes l) (inl e) = rw (tabulate_row n (λ j. g (row_of R j)) j l, e, z) (pick_zero (bit j c))
          other j m (yes l) (inr (k, h, _)) = rw (bit_mod j n (row R i) l, hR.alone k i j h (λ e. m (pivot_unique j p (row R i) (rw e h) f)))

  -- free blocks zero
  pub solution : List ℕ
  solution = tabulate n (λ j. payload n (row_of R j))

  pub solution_meets : MeetsAll n solution R
  unfolding Meets solution
  solution_meets = blocks_row (λ v. v / 2 ^ n) (zero-div (2 ^ n))

  -- the same, with bit 0 of the blocks changed along column f
  changed : ℕ → ℕ → ℕ
  changed f j = payload n (row_of R j) ⊕ (bit f (row_of R j) ⊕ bit j (2 ^ f))

  changed_meets : (f : ℕ) → f < n → MeetsAll n (tabulate n (changed f)) R
  unfolding Meets changed
  changed_meets f l i =
      let c : ℕ = row R i % 2 ^ n in
      let a : combine c (tabulate n (λ j. row_of R j / 2 ^ n)) ≡ row R i / 2 ^ n = blocks_row (λ v. v / 2 ^ n) (zero-div (2 ^ n)) i in
      let b : combine c (tabulate n (λ j. bit f (row_of R j))) ≡ bit f (row R i) = blocks_row (λ v. bit f v) (bit_of_zero f) i in
      let u : combine c (tabulate n (λ j. bit j (2 ^ f))) ≡ bit f (row R i) = combine_unit n f c l ∙ bit_mod f n (row R i) l in
      combine_tabulate_xor n (λ j. row_of R j / 2 ^ n) (λ j. bit f (row_of R j) ⊕ bit j (2 ^ f)) c
      ∙ ap₂ (λ (x y : ℕ). x ⊕ y) a
      (combine_tabulate_xor n (λ j. bit f (row_of R j)) (λ j. bit j (2 ^ f)) c ∙ ap₂ (λ (x y : ℕ). x ⊕ y) b u ∙ xor_self (bit f (row R i)))
      ∙ xor_zero_r (row R i / 2 ^ n)

  -- a block with another coefficient in its row, or with no row, changes along some column
  moves : (j : ℕ) → j < n → row_of R j % 2 ^ n ≢ 2 ^ j → (f : ℕ) × (f < n) × (bit f (row_of R j) ⊕ bit j (2 ^ f) ≡ 1)
  moves j l k = go (row_of_cases R j)
    where
      r : ℕ
      r = row_of R j

      u : ℕ
      u = r % 2 ^ n ⊕ 2 ^ j

      step : Pivot j r → (u ≡ 0) ⊎ ((f : ℕ) × Pivot f u) → (f : ℕ) × (f < n) × (bit f r ⊕ bit j (2 ^ f) ≡ 1)
      step g (inl z) = absurd (k (eq_of_xor (r % 2 ^ n) (2 ^ j) z))
      step g (inr (f, h)) = at (dec_lt f n) (ℕ_discrete f j)
        where
          o : differ (bit f (r % 2 ^ n)) (bit f (2 ^ j)) ≡ 1
          o = sym (bit_xor f (r % 2 ^ n) (2 ^ j)) ∙ h.one

          at : Dec (f < n) → Dec (f ≡ j) → (f : ℕ) × (f < n) × (bit f r ⊕ bit j (2 ^ f) ≡ 1)
          at (no m) e = absurd (omega (arith, rw (bit_mod_above n f r (omega arith), bit_pow_other f j (omega arith)) at o))
          at (yes m) (yes e) = absurd (omega (arith, rw (e, bit_mod j n r l, g.one, bit_pow j) at o))
          at (yes m) (no e) =
              let q : bit f r ≡ 1 = rw (bit_mod f n r m, bit_pow_other f j e, differ_zero (bit f r)) at o in
              (f, m, rw (q, bit_pow_other j f (omega arith)) (xor_zero_r 1))

      go : (row_of R j ≡ 0) ⊎ ((i : ℕ) × Pivot j (row R i) × (row_of R j ≡ row R i)) → (f : ℕ) × (f < n) × (bit f r ⊕ bit j (2 ^ f) ≡ 1)
      go (inl z) = (j, l, rw (z, bit_of_zero j, bit_pow j) (xor_zero_l 1))
      go (inr (i, f, e)) = step (rw e f) (pivot_cases u)

  module _ (p : ℕ) (narrow : (i : ℕ) → row R i < 2 ^ (n + p)) where
    block_lt : (j : ℕ) → payload n (row_of R j) < 2 ^ p
    block_lt j = go (row_of_cases R j)
      where
        go : (row_of R j ≡ 0) ⊎ ((i : ℕ) × Pivot j (row R i) × (row_of R j ≡ row R i)) → payload n (row_of R j) < 2 ^ p
        go (inl z) = rw (z, zero-div (2 ^ n)) (pow_pos p)
        go (inr (i, f, e)) = rw e (shr_lt p n (let s : n + p ≡ p + n = omega arith in rw s at (narrow i)))

    pub solution_image : Image n p solution
    unfolding solution
    solution_image = record {
      size = tabulate_length n (λ j. payload n (row_of R j));
      narrow = tabulate_each (λ (x : ℕ). x < 2 ^ p) n (λ j. payload n (row_of R j)) (pow_pos p) (λ j l. block_lt j);
    }

    -- blocks have at least one bit
    module _ (pos : 0 < p) where
      bit_small : (c v : ℕ) → bit c v < 2 ^ p
      bit_small c v = omega (arith, bit_lt c v, pow_mono {i = 1} {j = p} pos)

      changed_image : (f : ℕ) → Image n p (tabulate n (changed f))
      unfolding changed
      changed_image f = record {
        size = tabulate_length n (changed f);
        narrow = tabulate_each (λ (x : ℕ). x < 2 ^ p) n (changed f) (pow_pos p)
            (λ j l. xor_lt p (payload n (row_of R j)) (bit f (row_of R j) ⊕ bit j (2 ^ f)) (block_lt j)
            (xor_lt p (bit f (row_of R j)) (bit j (2 ^ f)) (bit_small f (row_of R j)) (bit_small j (2 ^ f))));
      }

      -- two images that meet R and differ in block j, unless its row has no other coefficient
      pub two_images : (j : ℕ) → j < n → row_of R j % 2 ^ n ≢ 2 ^ j → (Y : List ℕ) × Image n p Y × MeetsAll n Y R × (row solution j ≢ row Y j)
      unfolding solution changed
      two_images j l k =
          let t = moves j l k in
          let Y : List ℕ = tabulate n (changed t.0) in
          (Y, changed_image t.0, changed_meets t.0 t.1, λ e. differs t.2 (sym (tabulate_row n (λ j. payload n (row_of R j)) j l) ∙ e ∙ tabulate_row n (changed t.0) j l))
        where
          differs : {d : ℕ} → d ≡ 1 → payload n (row_of R j) ≡ payload n (row_of R j) ⊕ d → ⊥
          differs {d} e f =
              let b : ℕ = payload n (row_of R j) in
              let z : d ≡ 0 = sym (xor_cancel b d) ∙ ap (λ (x : ℕ). b ⊕ x) (sym f) ∙ xor_self b in
              omega arith
