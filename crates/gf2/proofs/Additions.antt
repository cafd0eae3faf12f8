-- Windows part the columns, so that each pivot counts once; a window has at most as many pivots as columns; and so the bound on the additions.
use mathlib.Core.Path.{◌≡◌, refl, sym, ap, ◌∙◌}
use mathlib.Core.Bool.{Bool, true, false, ◌&&◌}
use mathlib.Core.List.{List, [], ◌∷◌}
use Prim.Native.Nat.{ℕ, zero, suc, ◌+◌, ◌-◌, ◌*◌, ◌%◌, ◌^◌, ◌≤◌, ◌<◌, min}
use native.Mathlib.Decide.{ℕ_discrete, dec_lt}
use native.Mathlib.Nat.{mod-lt, div-add-mod', suc-mul, mul-suc, zero-mul, mul-le-mul_right, add-zero}
use native.Mathlib.Omega.{arith}
use borrow.Author.Tests.{lt-ltb, le-ltb, le-leb, lt-leb}
use lib.Dec.{leb, ltb}
use lib.ListN.{length, get_or}
use lib.Pow.{pow_pos, pow_mono}
use Rattle.gf2.specs.Rows.{SameRowSpace, one_if}
use Rattle.gf2.specs.Reduced.{Reduced, pivots, Rising}
use Rattle.gf2.specs.Additions.{windows, within, in_window, total_to, total, table_additions, additions}
use Rattle.gf2.proofs.Pivots.{pivots_rising, same_pivots}

-- ---- columns a to e - 1

pub count_in : (a e p : ℕ) → a ≤ p → p < e → one_if (leb a p && ltb p e) ≡ 1
count_in a e p h l = rw (le-leb a p h, lt-ltb p e l)

pub count_left : (a e p : ℕ) → p < a → one_if (leb a p && ltb p e) ≡ 0
count_left a e p h = rw (lt-leb a p h)

pub count_right : (a e p : ℕ) → e ≤ p → one_if (leb a p && ltb p e) ≡ 0
count_right a e p h = rw (le-ltb p e h) (go (leb a p))
  where
    go : (b : Bool) → one_if (b && false) ≡ 0
    go true = refl
    go false = refl

pub within_none : (a e : ℕ) (ps : List ℕ) → ((i : ℕ) → i < length ps → one_if (leb a (get_or ps i 0) && ltb (get_or ps i 0) e) ≡ 0) → within a e ps ≡ 0
unfolding within
within_none a e [] h = refl
within_none a e (p ∷ ps) h = rw (h 0 (omega arith), within_none a e ps (λ i l. h (suc i) (omega arith)))

pub within_empty : (a e : ℕ) (ps : List ℕ) → e ≤ a → within a e ps ≡ 0
within_empty a e ps h = within_none a e ps (λ i l. go (get_or ps i 0) (dec_lt (get_or ps i 0) a))
  where
    go : (p : ℕ) → Dec (p < a) → one_if (leb a p && ltb p e) ≡ 0
    go p (yes l) = count_left a e p l
    go p (no k) = count_right a e p (omega arith)

-- two parts side by side
pub within_split : (a b e : ℕ) (ps : List ℕ) → a ≤ b → b ≤ e → within a e ps ≡ within a b ps + within b e ps
unfolding within
within_split a b e [] h k = refl
within_split a b e (p ∷ ps) h k =
    rw (within_split a b e ps h k) (omega (arith, one (dec_lt p a) (dec_lt p b) (dec_lt p e)))
  where
    one : Dec (p < a) → Dec (p < b) → Dec (p < e) → one_if (leb a p && ltb p e) ≡ one_if (leb a p && ltb p b) + one_if (leb b p && ltb p e)
    one (yes l) _ _ = rw (count_left a e p l, count_left a b p l, count_left b e p (omega arith))
    one (no n) (yes l) _ = rw (count_in a e p (omega arith) (omega arith), count_in a b p (omega arith) l, count_left b e p l)
    one (no n) (no m) (yes l) = rw (count_in a e p (omega arith) l, count_right a b p (omega arith), count_in b e p (omega arith) l)
    one (no n) (no m) (no o) = rw (count_right a e p (omega arith), count_right a b p (omega arith), count_right b e p (omega arith))

-- numbers that rise stand in different columns
rising_tail : (p : ℕ) (ps : List ℕ) → Rising (p ∷ ps) → Rising ps
rising_tail p ps h i j l m = h (suc i) (suc j) (omega arith) (omega arith)

within_column : (c : ℕ) (ps : List ℕ) → Rising ps → within c (suc c) ps ≤ 1
unfolding within
within_column c [] h = omega arith
within_column c (p ∷ ps) h = go (ℕ_discrete p c) (within_column c ps (rising_tail p ps h))
  where
    go : Dec (p ≡ c) → within c (suc c) ps ≤ 1 → one_if (leb c p && ltb p (suc c)) + within c (suc c) ps ≤ 1
    go (yes e) ih =
        rw (
          count_in c (suc c) p (omega arith) (omega arith),
          within_none c (suc c) ps (λ i l. count_right c (suc c) (get_or ps i 0) (omega (arith, h 0 (suc i) (omega arith) (omega arith)))),
        ) (omega arith)
    go (no n) ih = rw (out (dec_lt p c)) (omega arith)
      where
        out : Dec (p < c) → one_if (leb c p && ltb p (suc c)) ≡ 0
        out (yes l) = count_left c (suc c) p l
        out (no m) = count_right c (suc c) p (omega arith)

pub within_width : (a d : ℕ) (ps : List ℕ) → Rising ps → within a (a + d) ps ≤ d
within_width a zero ps h = omega (arith, within_empty a (a + 0) ps (omega arith))
within_width a (suc d) ps h =
    let e : a + suc d ≡ suc (a + d) = omega arith in
    rw e (omega (arith, within_split a (a + d) (suc (a + d)) ps (omega arith) (omega arith), within_width a d ps h, within_column (a + d) ps h))

-- ---- windows

-- they reach the last column
pub windows_end : (k columns : ℕ) → 0 < k → columns ≤ windows k columns * k
windows_end k columns h =
    let d : windows k columns * k + (columns + (k - 1)) % k ≡ columns + (k - 1) = div-add-mod' (columns + (k - 1)) k in
    omega (arith, d, mod-lt (columns + (k - 1)) {m = k} h)

-- and each of them has a column
pub window_starts : (k columns j : ℕ) → 0 < k → j < windows k columns → j * k < columns
window_starts k columns j hk h =
    let d : windows k columns * k + (columns + (k - 1)) % k ≡ columns + (k - 1) = div-add-mod' (columns + (k - 1)) k in
    omega (arith, d, mul-le-mul_right k h, suc-mul j k)

-- the first j windows hold the pivots left of column j * k, each once
counted_once : (k columns : ℕ) (ps : List ℕ) (j : ℕ) → total_to (λ r. r) k columns ps j ≡ within 0 (min (j * k) columns) ps
unfolding total_to in_window
counted_once k columns ps zero = rw (zero-mul k) (sym (within_empty 0 (min 0 columns) ps (omega arith)))
counted_once k columns ps (suc j) = rw (counted_once k columns ps j, suc-mul j k) (go (dec_lt (j * k) columns))
  where
    a : ℕ
    a = j * k

    go : Dec (a < columns) → within 0 (min a columns) ps + within a (min (a + k) columns) ps ≡ within 0 (min (a + k) columns) ps
    go (yes l) =
        let e : min a columns ≡ a = omega arith in
        rw e (sym (within_split 0 a (min (a + k) columns) ps (omega arith) (omega arith)))
    go (no n) =
        let e : min a columns ≡ columns = omega arith in
        let f : min (a + k) columns ≡ columns = omega arith in
        rw (e, f, within_empty a columns ps (omega arith)) (add-zero (within 0 columns ps))

-- all windows together hold every pivot once
pub total_pivots : (k columns : ℕ) (ps : List ℕ) → 0 < k → total (λ r. r) k columns ps ≡ within 0 columns ps
total_pivots k columns ps h =
    let e : min (windows k columns * k) columns ≡ columns = omega (arith, windows_end k columns h) in
    counted_once k columns ps (windows k columns) ∙ ap (λ (x : ℕ). within 0 x ps) e

-- a window has at most k pivots
pub window_pivots : (k columns : ℕ) (ps : List ℕ) (j : ℕ) → Rising ps → in_window k columns ps j ≤ k
unfolding in_window
window_pivots k columns ps j h = go (dec_lt (j * k + k) columns) (dec_lt (j * k) columns)
  where
    a : ℕ
    a = j * k

    go : Dec (a + k < columns) → Dec (a < columns) → within a (min (a + k) columns) ps ≤ k
    go (yes l) _ = let e : min (a + k) columns ≡ a + k = omega arith in rw e (within_width a k ps h)
    go (no n) (yes l) =
        let e : min (a + k) columns ≡ a + (columns - a) = omega arith in
        rw e (omega (arith, within_width a (columns - a) ps h))
    go (no n) (no m) = omega (arith, within_empty a (min (a + k) columns) ps (omega arith))

-- ---- totals

-- a cost that is at most b where a window has at most k pivots
pub total_bound : (cost : ℕ → ℕ) (b k columns : ℕ) (ps : List ℕ) → Rising ps → ((r : ℕ) → r ≤ k → cost r ≤ b) → total cost k columns ps ≤ b * windows k columns
unfolding total_to
total_bound cost b k columns ps h c = go (windows k columns)
  where
    go : (j : ℕ) → total_to cost k columns ps j ≤ b * j
    go zero = omega arith
    go (suc j) = rw (mul-suc b j) (omega (arith, go j, c (in_window k columns ps j) (window_pivots k columns ps j h)))

-- the additions are at most 2 ^ k - 1 for each window
pub additions_bound : (k columns : ℕ) (R : List ℕ) → Reduced R → additions k columns R ≤ (2 ^ k - 1) * windows k columns
unfolding table_additions
additions_bound k columns R hR =
    total_bound table_additions (2 ^ k - 1) k columns (pivots R) (pivots_rising R hR) (λ r h. omega (arith, pow_mono h, pow_pos r))

-- they follow from the row space
pub same_additions : (k columns : ℕ) (M N : List ℕ) → Reduced M → Reduced N → SameRowSpace M N → additions k columns M ≡ additions k columns N
same_additions k columns M N hM hN same = ap (total table_additions k columns) (same_pivots M N hM hN same)
