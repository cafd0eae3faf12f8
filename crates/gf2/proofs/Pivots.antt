-- The list of pivots: what it says of a reduced matrix, that it rises, and that it follows from the row space.
use mathlib.Core.Path.{◌≡◌, refl, sym, ap₂, ◌∙◌}
use mathlib.Core.Logic.{◌≢◌}
use mathlib.Core.Bool.{Bool, true, false}
use mathlib.Core.List.{List, [], ◌∷◌}
use Prim.Native.Nat.{ℕ, zero, suc, ◌≤◌, ◌<◌}
use native.Mathlib.Decide.{dec_lt}
use native.Mathlib.Omega.{arith}
use borrow.Author.Tests.{eq-eqb, ne_eqb, eqb-true, eqb-false}
use lib.Dec.{eqb}
use lib.ListN.{length, get_or, get_or-eq_default}
use Rattle.gf2.specs.Rows.{row, SameRowSpace}
use Rattle.gf2.specs.Reduced.{Pivot, Reduced, pivot, add_pivot, pivots, rank, PivotList, Rising}
use Rattle.gf2.proofs.Pivot.{pivot_is, pivot_not_zero, no_pivot, pivot_unique}
use Rattle.gf2.proofs.Reduced.{reduced_tail, same_reduced_rows}

-- there is no other such list than the computed one
pub pivots_are : (R ps : List ℕ) → PivotList R ps → pivots R ≡ ps
unfolding pivots add_pivot
pivots_are [] [] h = refl
pivots_are [] (p ∷ ps) h = no_pivot p (h.used 0 (omega arith))
pivots_are (r ∷ R) [] h =
    rw (eq-eqb r 0 (h.rest 0 (omega arith))) (pivots_are R [] (record { used = λ i l. absurd (omega arith); rest = λ i l. h.rest (suc i) (omega arith) }))
pivots_are (r ∷ R) (p ∷ ps) h =
    let k : r ≢ 0 = pivot_not_zero p r (h.used 0 (omega arith)) in
    rw (ne_eqb r 0 k) (ap₂ (λ (q : ℕ) (qs : List ℕ). q ∷ qs) (pivot_unique (pivot r) p r (pivot_is r k) (h.used 0 (omega arith)))
    (pivots_are R ps (record { used = λ i l. h.used (suc i) (omega arith); rest = λ i l. h.rest (suc i) (omega arith) })))

-- a reduced list has such a list
pub pivots_list : (R : List ℕ) → Reduced R → PivotList R (pivots R)
unfolding pivots add_pivot
pivots_list [] hR = record { used = λ i l. absurd (omega arith); rest = λ i l. refl }
pivots_list (r ∷ R) hR = go (eqb r 0) refl (pivots_list R (reduced_tail r R hR))
  where
    go : (b : Bool) → eqb r 0 ≡ b → PivotList R (pivots R) → PivotList (r ∷ R) (add_pivot b (pivot r) (pivots R))
    go true e ih = rw none (record { used = λ i l. absurd (omega arith); rest = all })
      where
        all : (i : ℕ) → 0 ≤ i → row (r ∷ R) i ≡ 0
        all zero l = eqb-true r 0 e
        all (suc i) l = hR.last 0 (suc i) (omega arith) (eqb-true r 0 e)

        none : pivots R ≡ []
        none = pivots_are R [] (record { used = λ i l. absurd (omega arith); rest = λ i l. all (suc i) (omega arith) })
    go false e ih = record { used = used; rest = rest }
      where
        used : (i : ℕ) → i < suc (rank R) → Pivot (get_or (pivot r ∷ pivots R) i 0) (row (r ∷ R) i)
        used zero l = pivot_is r (eqb-false r 0 e)
        used (suc i) l = ih.used i (omega arith)

        rest : (i : ℕ) → suc (rank R) ≤ i → row (r ∷ R) i ≡ 0
        rest zero l = absurd (omega arith)
        rest (suc i) l = ih.rest i (omega arith)

-- the rank is the number of rows that are not zero: those above it are none, those from it on are
pub rank_used : (R : List ℕ) → Reduced R → (i : ℕ) → i < rank R → row R i ≢ 0
rank_used R hR i l = pivot_not_zero (get_or (pivots R) i 0) (row R i) ((pivots_list R hR).used i l)

pub rank_rest : (R : List ℕ) → Reduced R → (i : ℕ) → rank R ≤ i → row R i ≡ 0
rank_rest R hR = (pivots_list R hR).rest

pub rank_le : (R : List ℕ) → Reduced R → rank R ≤ length R
rank_le R hR = go (dec_lt (length R) (rank R))
  where
    go : Dec (length R < rank R) → rank R ≤ length R
    go (yes l) = absurd (rank_used R hR (length R) l (get_or-eq_default R 0 {n = length R} (omega arith)))
    go (no k) = omega arith

-- ---- pivots rise

pub pivots_rising : (R : List ℕ) → Reduced R → Rising (pivots R)
pivots_rising R hR i j h l = hR.rising i j (get_or (pivots R) i 0) (get_or (pivots R) j 0) h ((pivots_list R hR).used i (omega arith)) ((pivots_list R hR).used j l)

-- ---- pivots follow from the row space

pub same_pivots : (M N : List ℕ) → Reduced M → Reduced N → SameRowSpace M N → pivots M ≡ pivots N
same_pivots M N hM hN same =
    let e : (i : ℕ) → row N i ≡ row M i = λ i. sym (same_reduced_rows M N hM hN same i) in
    sym (pivots_are N (pivots M) (record { used = λ i l. rw (e i) ((pivots_list M hM).used i l); rest = λ i l. e i ∙ (pivots_list M hM).rest i l }))
