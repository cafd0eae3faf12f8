-- A window whose pivots are sought first and whose other rows are cleared later: one table row will give each of them what clearing pivot by pivot would.
use mathlib.Core.Path.{◌≡◌, refl, sym, ◌∙◌}
use mathlib.Core.Logic.{◌≢◌, ◌⊎◌, inl, inr}
use mathlib.Core.List.{List, [], ◌∷◌}
use Prim.Native.Nat.{ℕ, zero, suc, ◌+◌, ◌≤◌, ◌<◌}
use native.Mathlib.Decide.{ℕ_discrete, dec_lt}
use native.Mathlib.Nat.{add_left_cancel, add-zero, add-suc}
use native.Mathlib.Omega.{arith}
use lib.Bits.{xor_comm, xor_self}
use lib.ListN.{take, drop}
use lib.Seq.{get_or-take, get_or-drop}
use Rattle.gf2.specs.Rows.{bit, ◌⊕◌, row, part, pick, combine, RowSpace, SameRowSpace}
use Rattle.gf2.specs.Reduced.{Pivot, Reduced}
use Rattle.gf2.proofs.Bits.{bit_of_zero, bit_xor, differ_self, xor_assoc, xor_mid, xor_back, xor_cancel}
use Rattle.gf2.proofs.Space.{pick_each, space_zero, space_xor, space_row, space_sub, same_rows}
use Rattle.gf2.proofs.Pivot.{pivot_not_zero}
use Rattle.method.specs.Stage.{Upto, Pending}
use Rattle.method.proofs.Upto.{upto_pivot}
use Rattle.method.proofs.Table.{bit_at_pivot, clear_unique}

-- ---- the rows of a part

pub part_row : (r s : ℕ) (L : List ℕ) (b : ℕ) → b < s → row (part r s L) b ≡ row L (r + b)
part_row r s L b h = get_or-take s (drop r L) b 0 h ∙ get_or-drop r L b 0

part_past : (r s : ℕ) (L : List ℕ) (b : ℕ) → s ≤ b → row (part r s L) b ≡ 0
part_past r s L = go s (drop r L)
  where
    go : (s : ℕ) (L : List ℕ) (b : ℕ) → s ≤ b → row (take s L) b ≡ 0
    go zero L b h = refl
    go (suc s) [] b h = refl
    go (suc s) (x ∷ L) zero h = absurd (omega arith)
    go (suc s) (x ∷ L) (suc b) h = go s L b (omega arith)

-- what holds of zero and of the rows r to r + s - 1 of L
pub part_each : (P : ℕ → Type 0) (r s : ℕ) (L : List ℕ) → P 0 → ((b : ℕ) → b < s → P (row L (r + b))) → (b : ℕ) → P (row (part r s L) b)
part_each P r s L z h b = go (dec_lt b s)
  where
    go : Dec (b < s) → P (row (part r s L) b)
    go (yes l) = rw (part_row r s L b l) (h b l)
    go (no n) = rw (part_past r s L b (omega arith)) z

-- each of these rows is in the part's row space
pub part_has : (r s : ℕ) (L : List ℕ) (b : ℕ) → b < s → RowSpace (part r s L) (row L (r + b))
part_has r s L b l = rw (part_row r s L b l) at (space_row (part r s L) b)

-- which is in that of M, if they are
pub part_sub : (r s : ℕ) (L M : List ℕ) → ((b : ℕ) → b < s → RowSpace M (row L (r + b))) → (v : ℕ) → RowSpace (part r s L) v → RowSpace M v
part_sub r s L M h = space_sub (part r s L) M (part_each (RowSpace M) r s L (space_zero M) h)

part_pivot : (r s : ℕ) (L : List ℕ) (b q : ℕ) → Pivot q (row (part r s L) b) → (b < s) × Pivot q (row L (r + b))
part_pivot r s L b q f = go (dec_lt b s)
  where
    go : Dec (b < s) → (b < s) × Pivot q (row L (r + b))
    go (yes l) = (l, rw (part_row r s L b l) at f)
    go (no n) = absurd (pivot_not_zero q (row (part r s L) b) f (part_past r s L b (omega arith)))

-- ---- as it stands, and as it will be

pub pending_start : (c r : ℕ) (M : List ℕ) → Upto c r M → Pending c r 0 M M
pending_start c r M u = record {
  upto = rw add-zero u;
  mine = λ i a b. refl;
  diff = λ i. rw (xor_self (row M i)) (space_zero (part r 0 M));
}

module _ (x r s : ℕ) (M F : List ℕ) (z : Pending x r s M F) where
  -- a pivot of the window, as it stands and as it will be
  will_be : (b q : ℕ) → b < s → Pivot q (row M (r + b)) → Pivot q (row F (r + b))
  will_be b q l f = rw (z.mine (r + b) (omega arith) (omega arith)) f

  -- the window's pivot rows are reduced
  part_reduced : Reduced (part r s M)
  part_reduced = record { last = last; rising = rising; alone = alone }
    where
      last : (i j : ℕ) → i < j → row (part r s M) i ≡ 0 → row (part r s M) j ≡ 0
      last i j h e = go (dec_lt i s)
        where
          go : Dec (i < s) → row (part r s M) j ≡ 0
          go (yes l) =
              let t = z.upto.used (r + i) (omega arith) in
              absurd (pivot_not_zero t.0 (row F (r + i)) t.2 (z.mine (r + i) (omega arith) (omega arith) ∙ sym (part_row r s M i l) ∙ e))
          go (no n) = part_past r s M j (omega arith)

      rising : (i j p q : ℕ) → i < j → Pivot p (row (part r s M) i) → Pivot q (row (part r s M) j) → p < q
      rising i j p q h f g =
          let f' = part_pivot r s M i p f in
          let g' = part_pivot r s M j q g in
          z.upto.rising (r + i) (r + j) p q (omega arith) (omega (arith, g'.0)) (will_be i p f'.0 f'.1) (will_be j q g'.0 g'.1)

      alone : (i j p : ℕ) → Pivot p (row (part r s M) i) → j ≢ i → bit p (row (part r s M) j) ≡ 0
      alone i j p f n = go (dec_lt j s)
        where
          go : Dec (j < s) → bit p (row (part r s M) j) ≡ 0
          go (yes l) =
              let f' = part_pivot r s M i p f in
              rw (part_row r s M j l, ← (z.mine (r + j) (omega arith) (omega arith)))
              (z.upto.alone (r + i) (r + j) p (omega (arith, f'.0)) (will_be i p f'.0 f'.1) (λ e. n (add_left_cancel r e)))
          go (no m) = rw (part_past r s M j (omega arith)) (bit_of_zero p)

  -- v differs from row i by a sum of the window's pivot rows, and has no one in their columns: it is what clearing will give
  pub settled : (i v : ℕ) → ((b : ℕ) → b < s → i ≢ r + b) → RowSpace (part r s M) (row M i ⊕ v)
      → ((b q : ℕ) → b < s → Pivot q (row M (r + b)) → bit q v ≡ 0) → v ≡ row F i
  settled i v out sum clean =
      let P : List ℕ = part r s M in
      let diff : RowSpace P (row M i ⊕ row F i) = part_sub r s F P (λ b l. rw (z.mine (r + b) (omega arith) (omega arith)) (part_has r s M b l)) (row M i ⊕ row F i) (z.diff i) in
      clear_unique P part_reduced v (row F i)
      (rw (turn (row M i) v (row F i)) at (space_xor P (row M i ⊕ v) (row M i ⊕ row F i) sum diff))
      (λ b q f. let f' = part_pivot r s M b q f in clean b q f'.0 f'.1)
      (λ b q f. let f' = part_pivot r s M b q f in z.upto.alone (r + b) i q (omega (arith, f'.0)) (will_be b q f'.0 f'.1) (out b f'.0))
    where
      turn : (m a b : ℕ) → (m ⊕ a) ⊕ (m ⊕ b) ≡ a ⊕ b
      turn m a b = rw (xor_comm m a) (xor_mid a m b)

  -- so does one row of the table of sums, whose name says in which of their columns row i has a one
  pub pending_clear : (i idx : ℕ) → ((b : ℕ) → b < s → i ≢ r + b)
      → ((b q : ℕ) → b < s → Pivot q (row M (r + b)) → bit b idx ≡ bit q (row M i)) → row M i ⊕ combine idx (part r s M) ≡ row F i
  pending_clear i idx out names =
      let m : ℕ = row M i in
      let t : ℕ = combine idx (part r s M) in
      settled i (m ⊕ t) out (rw (xor_cancel m t) (idx, refl))
      (λ b q l f. rw (bit_xor q m t, bit_at_pivot (part r s M) part_reduced b q idx (rw (part_row r s M b l) f), names b q l f) (differ_self (bit q m)))

  -- clearing leaves the row space as it is
  pub pending_same : SameRowSpace M F
  pending_same =
      same_rows M F
      (λ i. rw xor_back at (space_xor F (row M i ⊕ row F i) (row F i) (part_sub r s F F (λ b l. space_row F (r + b)) (row M i ⊕ row F i) (z.diff i)) (space_row F i)))
      (λ i. rw xor_cancel at (space_xor M (row M i) (row M i ⊕ row F i) (space_row M i)
      (part_sub r s F M (λ b l. rw (z.mine (r + b) (omega arith) (omega arith)) (space_row M (r + b))) (row M i ⊕ row F i) (z.diff i))))

-- ---- a further pivot: row r + s is as it will be, with a one in column x, and the window's other pivot rows have been cleared there by it

module _ (x r s : ℕ) (M F N G : List ℕ) (z : Pending x r s M F) (o : bit x (row F (r + s)) ≡ 1)
    (own : row N (r + s) ≡ row F (r + s)) (ownG : row G (r + s) ≡ row F (r + s))
    (earlier : (i : ℕ) → r ≤ i → i < r + s → row N i ≡ row M i ⊕ pick (bit x (row M i)) (row F (r + s)))
    (others : (i : ℕ) → (i < r) ⊎ (r + s < i) → row N i ≡ row M i)
    (all : (i : ℕ) → i ≢ r + s → row G i ≡ row F i ⊕ pick (bit x (row F i)) (row F (r + s))) where
  abbrev P : List ℕ
  P = part r (suc s) G

  same_part : (i : ℕ) → r ≤ i → i < r + suc s → row G i ≡ row N i
  same_part i a b = go (ℕ_discrete i (r + s))
    where
      go : Dec (i ≡ r + s) → row G i ≡ row N i
      go (yes e) = rw (e, ownG, own)
      go (no n) = rw (all i n, earlier i a (omega arith), z.mine i a (omega arith))

  -- the new pivot row
  new_row : (b : ℕ) → RowSpace P (pick b (row F (r + s)))
  new_row b = pick_each (RowSpace P) b (row F (r + s)) (space_zero P) (rw ownG at (part_has r (suc s) G s (omega arith)))

  -- the old pivot rows are sums of the new ones
  old_row : (b : ℕ) → b < s → RowSpace P (row F (r + b))
  old_row b l =
      let p : ℕ = pick (bit x (row F (r + b))) (row F (r + s)) in
      rw xor_back at (space_xor P (row F (r + b) ⊕ p) p (rw (all (r + b) (omega arith)) at (part_has r (suc s) G b (omega arith))) (new_row (bit x (row F (r + b)))))

  pub pending_pivot : Pending (suc x) r (suc s) N G
  pending_pivot = record {
    upto = rw add-suc (upto_pivot x (r + s) F G z.upto o ownG all);
    mine = same_part;
    diff = λ i. go i (dec_lt i r) (dec_lt (r + s) i);
  }
    where
      outside : (i : ℕ) → (i < r) ⊎ (r + s < i) → i ≢ r + s → RowSpace P (row N i ⊕ row G i)
      outside i w n =
          let p : ℕ = pick (bit x (row F i)) (row F (r + s)) in
          rw (others i w, all i n, ← (xor_assoc (row M i) (row F i) p))
          (space_xor P (row M i ⊕ row F i) p (part_sub r s F P old_row (row M i ⊕ row F i) (z.diff i)) (new_row (bit x (row F i))))

      go : (i : ℕ) → Dec (i < r) → Dec (r + s < i) → RowSpace P (row N i ⊕ row G i)
      go i (yes l) m = outside i (inl l) (omega arith)
      go i (no l) (yes m) = outside i (inr m) (omega arith)
      go i (no l) (no m) = rw (same_part i (omega arith) (omega arith), xor_self (row N i)) (space_zero P)
