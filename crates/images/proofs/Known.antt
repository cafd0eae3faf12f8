-- The third demand, about the definitions. R is any reduced list with the row space of the packets L: a list is contradictory exactly if a pivot of R falls
-- in the payload; otherwise a block is known exactly if all images that meet L agree on it, and its content is theirs.
use mathlib.Core.Path.{◌≡◌, sym, ap, ◌∙◌, subst}
use mathlib.Core.Logic.{◌⊎◌, inl, inr, ◌↔◌}
use mathlib.Core.Bool.{not}
use mathlib.Core.List.{List}
use Prim.Native.Nat.{ℕ, ◌+◌, ◌%◌, ◌^◌, ◌<◌}
use native.Mathlib.Decide.{ℕ_discrete, dec_lt}
use native.Mathlib.Nat.{zero-mod}
use native.Mathlib.Omega.{arith}
use borrow.Author.Tests.{eq-eqb, ne_eqb}
use lib.Dec.{T, eqb→eq, eqb_refl}
use lib.Pow.{pow_pos}
use Rattle.gf2.specs.Rows.{row, SameRowSpace}
use Rattle.gf2.specs.Reduced.{Pivot, Reduced}
use Rattle.gf2.proofs.Space.{combine_pow, same_sym, same_narrow}
use Rattle.gf2.proofs.Pivot.{pivot_narrow}
use Rattle.images.specs.Packets.{Meets, MeetsAll, Met, Contradictory, Agreed}
use Rattle.images.specs.ReadOff.{pivot_row, PivotIn, NoPivotIn, has_pivot, contradictory, known, content}
use Rattle.images.proofs.Found.{found_cases, found_not_zero}
use Rattle.images.proofs.Meeting.{meets_same, met_pivot}
use Rattle.images.proofs.Solution.{row_of, row_of_cases, solution, solution_meets, solution_image, two_images}

module _ (n p : ℕ) (L R : List ℕ) (narrow : (i : ℕ) → row L i < 2 ^ (n + p)) (hR : Reduced R) (same : SameRowSpace L R) where
  narrowR : (i : ℕ) → row R i < 2 ^ (n + p)
  narrowR = same_narrow (n + p) L R same narrow

  -- a pivot in the payload, or none and then every pivot among the coefficients
  low : NoPivotIn n (n + p) R → (i q : ℕ) → Pivot q (row R i) → q < n
  low m i q f = go (dec_lt q n)
    where
      go : Dec (q < n) → q < n
      go (yes l) = l
      go (no k) = absurd (m.none i q f (omega arith) (pivot_narrow (n + p) q (row R i) (narrowR i) f))

  pub missing_met : NoPivotIn n (n + p) R → Met n p L
  missing_met m = (
    solution n R hR (low m),
    solution_image n R hR (low m) p narrowR,
    meets_same n (solution n R hR (low m)) R L (same_sym same) (solution_meets n R hR (low m)),
  )

  found_unmet : PivotIn n (n + p) R → Contradictory n p L
  found_unmet t (X, _, h) =
      omega (arith, t.from, met_pivot n t.column X (row R t.at) (meets_same n X L R same h t.at) t.pivot)

  -- refused exactly if no image meets all packets
  pub contradictory_exactly : T (contradictory n p R) ↔ Contradictory n p L
  unfolding has_pivot
  contradictory_exactly = (to (found_cases n (n + p) R), back (found_cases n (n + p) R))
    where
      to : NoPivotIn n (n + p) R ⊎ PivotIn n (n + p) R → T (contradictory n p R) → Contradictory n p L
      to (inl m) t = absurd (subst T (ap not (eq-eqb (pivot_row n (n + p) R) 0 m.is)) t)
      to (inr f) t = found_unmet f

      back : NoPivotIn n (n + p) R ⊎ PivotIn n (n + p) R → Contradictory n p L → T (contradictory n p R)
      back (inl m) k = absurd (k (missing_met m))
      back (inr f) k = rw (ne_eqb (pivot_row n (n + p) R) 0 (found_not_zero n (n + p) R f)) tt

  -- the packets can be met, or they are contradictory
  pub met_cases : Met n p L ⊎ Contradictory n p L
  met_cases = go (found_cases n (n + p) R)
    where
      go : NoPivotIn n (n + p) R ⊎ PivotIn n (n + p) R → Met n p L ⊎ Contradictory n p L
      go (inl m) = inl (missing_met m)
      go (inr f) = inr (found_unmet f)

  -- the content of a known block is that of every image that meets the packets
  pub content_theirs : (j : ℕ) → T (known n R j) → (X : List ℕ) → MeetsAll n X L → row X j ≡ content n R j
  unfolding known content Meets
  content_theirs j t X h = go (row_of_cases R j)
    where
      alone : row_of R j % 2 ^ n ≡ 2 ^ j
      alone = eqb→eq (row_of R j % 2 ^ n) (2 ^ j) t

      go : (row_of R j ≡ 0) ⊎ ((i : ℕ) × Pivot j (row R i) × (row_of R j ≡ row R i)) → row X j ≡ content n R j
      go (inl z) = absurd (omega (arith, pow_pos j, zero-mod (2 ^ n), rw z at alone))
      go (inr (i, f, e)) = sym (combine_pow j X) ∙ (rw (← e, alone) at (meets_same n X L R same h i))

  -- a block on which all images agree is known, where some image meets the packets
  agreed_known : 0 < p → Met n p L → (j : ℕ) → j < n → Agreed n p L j → T (known n R j)
  unfolding known
  agreed_known pos met j l agreed = go (found_cases n (n + p) R) (ℕ_discrete (row_of R j % 2 ^ n) (2 ^ j))
    where
      go : NoPivotIn n (n + p) R ⊎ PivotIn n (n + p) R → Dec (row_of R j % 2 ^ n ≡ 2 ^ j) → T (known n R j)
      go (inr f) _ = absurd (found_unmet f met)
      go (inl m) (yes e) = rw e (eqb_refl (2 ^ j))
      go (inl m) (no k) =
          let S : List ℕ = solution n R hR (low m) in
          let t = two_images n R hR (low m) p narrowR pos j l k in
          absurd (t.3 (agreed S t.0 (solution_image n R hR (low m) p narrowR) t.1
          (meets_same n S R L (same_sym same) (solution_meets n R hR (low m))) (meets_same n t.0 R L (same_sym same) t.2)))

  -- known exactly if all images that meet the packets agree on the block
  pub known_exactly : 0 < p → Met n p L → (j : ℕ) → j < n → T (known n R j) ↔ Agreed n p L j
  known_exactly pos met j l =
      (λ t X Y iX iY mX mY. content_theirs j t X mX ∙ sym (content_theirs j t Y mY), agreed_known pos met j l)
