-- The contradiction call's set. R is any reduced list with the row space of [packets | identity]: the sum of the named packets has no coefficient and some
-- payload; and none are named exactly if some image meets all packets.
use mathlib.Core.Path.{◌≡◌, refl, ap}
use mathlib.Core.Logic.{◌≢◌, ◌⊎◌, inl, inr, ◌↔◌}
use mathlib.Core.List.{List}
use Prim.Native.Nat.{ℕ, ◌+◌, ◌/◌, ◌%◌, ◌^◌, ◌<◌}
use native.Mathlib.Nat.{zero-div}
use native.Mathlib.Omega.{arith}
use lib.ListN.{length}
use lib.Pow.{pow_pos, shr_lt}
use Rattle.gf2.specs.Rows.{row, combine, RowSpace, SameRowSpace}
use Rattle.gf2.specs.Reduced.{Pivot, Reduced}
use Rattle.gf2.specs.Rref.{rref}
use Rattle.gf2.specs.Inverse.{adjoin}
use Rattle.gf2.proofs.Space.{combine_zero, space_row, same_narrow}
use Rattle.gf2.proofs.Pivot.{pivot_cut, pivot_uncut, cut_zero, high_not_zero}
use Rattle.gf2.proofs.Reduced.{space_pivot}
use Rattle.gf2.proofs.Rref.{rref_form}
use Rattle.gf2.proofs.Adjoin.{adjoin_left, adjoin_names, adjoin_narrow}
use Rattle.images.specs.Packets.{Met, Contradiction}
use Rattle.images.specs.ReadOff.{pivot_row, PivotIn, NoPivotIn, named}
use Rattle.images.proofs.Found.{found_cases, same_pivot_row}
use Rattle.images.proofs.Meeting.{contradiction_unmet}
use Rattle.images.proofs.Known.{missing_met}

module _ (n p : ℕ) (L R : List ℕ) (narrow : (i : ℕ) → row L i < 2 ^ (n + p)) (hR : Reduced R) (same : SameRowSpace (adjoin (n + p) L) R) where
  -- the row found names packets that contradict each other
  pub found_names : PivotIn n (n + p) R → Contradiction n L (named n p R)
  unfolding named
  found_names t =
      let v : ℕ = row R t.at in
      let e : combine (v / 2 ^ (n + p)) L ≡ v % 2 ^ (n + p) = adjoin_names (n + p) L narrow v (same.back v (space_row R t.at)) in
      let f : Pivot t.column (combine (v / 2 ^ (n + p)) L) = rw e (pivot_cut (n + p) t.column v t.to t.pivot) in
      rw t.is (record {
        coefficients_zero = cut_zero n t.column (combine (v / 2 ^ (n + p)) L) t.from f;
        payloads_not = high_not_zero n t.column (combine (v / 2 ^ (n + p)) L) t.from f;
      })

  -- where no row is found no row of the reduced packets has a pivot in the payload
  missing_missing : NoPivotIn n (n + p) R → NoPivotIn n (n + p) (rref L) ⊎ PivotIn n (n + p) (rref L) → NoPivotIn n (n + p) (rref L)
  missing_missing m (inl k) = k
  missing_missing m (inr t) =
      let s : RowSpace L (row (rref L) t.at) = (rref_form L).space.back (row (rref L) t.at) (space_row (rref L) t.at) in
      let u : ℕ = combine s.0 (adjoin (n + p) L) in
      let f : Pivot t.column u = pivot_uncut (n + p) t.column u t.to (rw (adjoin_left (n + p) L narrow s.0, s.1) t.pivot) in
      let k = space_pivot R hR u t.column (same.to u (s.0, refl)) f in
      absurd (m.none k.0 t.column k.2 t.from t.to)

  pub missing_none : NoPivotIn n (n + p) R → named n p R ≡ 0
  unfolding named
  missing_none m = rw m.is (zero-div (2 ^ (n + p)))

  -- the named packets contradict each other
  pub named_contradicts : named n p R ≢ 0 → Contradiction n L (named n p R)
  named_contradicts k = go (found_cases n (n + p) R)
    where
      go : NoPivotIn n (n + p) R ⊎ PivotIn n (n + p) R → Contradiction n L (named n p R)
      go (inl m) = absurd (k (missing_none m))
      go (inr t) = found_names t

  -- no packet is named exactly if some image meets all
  pub none_exactly : (named n p R ≡ 0) ↔ Met n p L
  none_exactly = (to (found_cases n (n + p) R), back (found_cases n (n + p) R))
    where
      to : NoPivotIn n (n + p) R ⊎ PivotIn n (n + p) R → named n p R ≡ 0 → Met n p L
      to (inl m) e = missing_met n p L (rref L) narrow (rref_form L).reduced (rref_form L).space (missing_missing m (found_cases n (n + p) (rref L)))
      to (inr t) e = absurd ((found_names t).payloads_not (rw (e, combine_zero L) (zero-div (2 ^ n))))

      back : NoPivotIn n (n + p) R ⊎ PivotIn n (n + p) R → Met n p L → named n p R ≡ 0
      back (inl m) _ = missing_none m
      back (inr t) met = absurd (contradiction_unmet n p L (named n p R) (found_names t) met)

  -- they are packets of L
  pub named_narrow : named n p R < 2 ^ length L
  unfolding named
  named_narrow = go (found_cases n (n + p) R)
    where
      go : NoPivotIn n (n + p) R ⊎ PivotIn n (n + p) R → pivot_row n (n + p) R / 2 ^ (n + p) < 2 ^ length L
      go (inl m) = rw (m.is, zero-div (2 ^ (n + p))) (pow_pos (length L))
      go (inr t) =
          let e : (n + p) + length L ≡ length L + (n + p) = omega arith in
          rw t.is (shr_lt (length L) (n + p) (rw e at (same_narrow ((n + p) + length L) (adjoin (n + p) L) R same (adjoin_narrow (n + p) L narrow) t.at)))

-- the set follows from the packets alone, whatever reduced list it is read off
pub one_named : (n p : ℕ) (R S : List ℕ) → Reduced R → Reduced S → SameRowSpace R S → named n p R ≡ named n p S
unfolding named
one_named n p R S hR hS same = ap (λ (v : ℕ). v / 2 ^ (n + p)) (same_pivot_row n (n + p) R S hR hS same)
