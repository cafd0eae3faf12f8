-- A window: once its rows are cleared the matrix is what the search foresaw. All windows: after the last the matrix is reduced, and the pivots and additions are its own.
use mathlib.Core.Path.{◌≡◌, refl, sym, ap, ap₂, ◌∙◌, subst}
use mathlib.Core.Logic.{◌⊎◌, inl, inr}
use mathlib.Core.List.{List, ◌++◌}
use Prim.Native.Nat.{ℕ, zero, suc, ◌+◌, ◌-◌, ◌*◌, ◌/◌, ◌%◌, ◌^◌, ◌<◌, ◌≤◌}
use native.Mathlib.Decide.{dec_lt}
use native.Mathlib.Nat.{suc-mul, lt_of_lt_of_le, mul-le-mul_right, mul-suc, zero-mul, le_trans}
use native.Mathlib.Numerals.{add-one}
use native.Mathlib.Omega.{arith}
use lib.Bits.{xor_zero_r}
use lib.ListN.{length, get_or, take, drop, length-drop}
use lib.Pow.{pow_mono}
use lib.Seq.{ext_get_or, take-add, get_or-take, get_or-drop, length-take-le, drop-drop}
use Rattle.gf2.specs.Rows.{bit, ◌⊕◌, row, part, combine, RowSpace, SameRowSpace}
use Rattle.gf2.specs.Additions.{windows, total_to, table_additions, additions}
use Rattle.gf2.proofs.Bits.{eq_of_xor}
use Rattle.gf2.proofs.Space.{combine_zero, space_ind, same_refl, same_trans, same_narrow}
use Rattle.gf2.proofs.Pivot.{pivot_unique, pivot_narrow, cut_zero}
use Rattle.gf2.proofs.Products.{tabulate_row, tabulate_length}
use Rattle.gf2.proofs.Additions.{windows_end, window_starts}
use Rattle.method.specs.Stage.{Upto, Stage, Unset}
use Rattle.method.proofs.Upto.{upto_past}
use Rattle.method.proofs.Done.{stage_start, stage_left, form_done, pivots_done, rank_done, record_done}
use Rattle.method.proofs.Pending.{pending_clear, pending_same}
use Rattle.method.proofs.Counting.{total_more}
use Rattle.words.specs.Words.{rows_of}
use Rattle.engine.specs.declared.Eliminated.{Eliminated}
use Rattle.engine.specs.Core.{ReducedTo}
use Rattle.engine.specs.Stage.{Sizes, Applies, Search, WindowPivots, Numbers, cleared, Windowed}
use Rattle.engine.proofs.Steps.{left_of}

-- ---- one window

module _ {n c k base r : ℕ} {M h o cols : List ℕ} (S : Search n c k k base r M h o cols) where
  pub window_pivots : WindowPivots c k base r cols
  window_pivots = record {
    low = λ b l. S.here (base + b) (omega arith) (omega arith);
    high = λ b l. left_of n c k k base r M h o cols S (base + b) (omega arith);
    full = S.full;
  }

  -- no pivot: nothing is to be cleared
  no_pivots : length M ≡ n → r ≡ 0 → M ≡ S.F
  no_pivots lM e =
      ext_get_or 0 M S.F (lM ∙ sym S.size)
      (λ i l. let d = row M i ⊕ row S.F i in
      eq_of_xor (row M i) (row S.F i) (nothing d (subst (λ (q : ℕ). RowSpace (part base q S.F) d) e (S.pending.diff i))))
    where
      nothing : (v : ℕ) → RowSpace (part base 0 S.F) v → v ≡ 0
      nothing = space_ind (λ (v : ℕ). v ≡ 0) (part base 0 S.F) refl (λ a b p q. ap₂ (λ (x y : ℕ). x ⊕ y) p q) (λ i. refl)

  -- each row cleared by its table row
  pub cleared_all : {H : List ℕ} → length M ≡ n → Numbers n base r M H cols → cleared H (part base r M) M ≡ S.F
  unfolding cleared
  cleared_all {H = H} lM N =
      ext_get_or 0 (cleared H (part base r M) M) S.F (tabulate_length (length M) f ∙ lM ∙ sym S.size)
      (λ i l. let hi : i < length M = omega (arith, tabulate_length (length M) f) in tabulate_row (length M) f i hi ∙ go i (omega arith) (dec_lt i base) (dec_lt i (base + r)))
    where
      f : ℕ → ℕ
      f i = row M i ⊕ combine (get_or H i 0) (part base r M)

      other : (i : ℕ) → i < n → (i < base) ⊎ (base + r ≤ i) → f i ≡ row S.F i
      other i l out =
          pending_clear (c + k) base r M S.F S.pending i (get_or H i 0) (λ b m e. away b m e out)
          (λ b q m p. let own = rw (S.pending.mine (base + b) (omega arith) (omega arith)) at (S.pivots (base + b) (omega arith)) in
          N.named i b l out m ∙ ap (λ (x : ℕ). bit x (row M i)) (pivot_unique (get_or cols (base + b) 0) q (row M (base + b)) own p))
        where
          away : (b : ℕ) → b < r → i ≡ base + b → (i < base) ⊎ (base + r ≤ i) → ⊥
          away b m e (inl x) = omega arith
          away b m e (inr x) = omega arith

      go : (i : ℕ) → i < n → Dec (i < base) → Dec (i < base + r) → f i ≡ row S.F i
      go i l (yes a) _ = other i l (inl a)
      go i l (no a) (yes b) =
          rw (N.own i (omega arith) b, combine_zero (part base r M), xor_zero_r (row M i)) (sym (S.pending.mine i (omega arith) b))
      go i l (no a) (no b) = other i l (inr (omega arith))

  pub windowed : {L N cols₀ : List ℕ} → SameRowSpace L M → N ≡ S.F → ((i : ℕ) → i < base → get_or cols i 0 ≡ get_or cols₀ i 0) → Windowed n c k base r L N cols₀ cols
  windowed s e old = record {
    stage = subst (λ (X : List ℕ). Stage n (c + k) (base + r) X cols) (sym e)
        (record { upto = S.pending.upto; pivots = S.pivots; none = S.none; room = S.room; whole = S.whole });
    space = same_trans s (subst (λ (X : List ℕ). SameRowSpace M X) (sym e) (pending_same (c + k) base r M S.F S.pending));
    old = old;
    here = S.here;
    few = S.few;
  }

  pub windowed_none : {L cols₀ : List ℕ} → length M ≡ n → r ≡ 0 → SameRowSpace L M → ((i : ℕ) → i < base → get_or cols i 0 ≡ get_or cols₀ i 0)
      → Windowed n c k base 0 L M cols₀ cols
  windowed_none {L = L} {cols₀ = cols₀} lM e s old = subst (λ (q : ℕ). Windowed n c k base q L M cols₀ cols) e (windowed s (no_pivots lM e) old)

-- ---- the loop over the windows

-- after j windows: columns below j * k are done, r pivots found, and their additions counted
pub record Passed (n columns k j r added : ℕ) (L N cols : List ℕ) : Type 0 where
  pub stage : Stage n (j * k) r N cols
  pub space : SameRowSpace L N
  pub counted : added ≡ total_to table_additions k columns (take r cols) j

pub passed_start : {n columns k : ℕ} {L cols : List ℕ} → n ≤ length cols → Unset cols → Passed n columns k 0 0 0 L L cols
unfolding total_to
passed_start {n = n} {k = k} {L = L} {cols = cols} l none = record {
  stage = subst (λ (c : ℕ). Stage n c 0 L cols) (sym (zero-mul k)) (stage_start n L cols l none);
  space = same_refl L;
  counted = refl;
}

module _ {n columns k kw j base r added a : ℕ} {L M N cols cols' : List ℕ} (le : kw ≤ k) (last : (j * k + kw ≡ columns) ⊎ (kw ≡ k))
    (clean : (i : ℕ) → row L i < 2 ^ columns) (P : Passed n columns k j base added L M cols) (W : Windowed n (j * k) kw base r M N cols cols') (e : a ≡ table_additions r) where
  next : suc j * k ≡ j * k + k
  next = suc-mul j k

  space : SameRowSpace L N
  space = same_trans P.space W.space

  clean' : (i : ℕ) → row N i < 2 ^ columns
  clean' = same_narrow columns L N space clean

  -- the pivots found before, and those of this window
  abbrev ps : List ℕ
  ps = take base cols

  abbrev qs : List ℕ
  qs = take r (drop base cols')

  room' : base + r ≤ length cols'
  room' = omega (arith, W.stage.room, W.stage.whole)

  room : base ≤ length cols
  room = omega (arith, P.stage.room, P.stage.whole)

  split : take (base + r) cols' ≡ ps ++ qs
  split =
      take-add base r cols'
      ∙ ap (λ (X : List ℕ). X ++ qs)
      (ext_get_or 0 (take base cols') (take base cols) (length-take-le base cols' (omega (arith, room')) ∙ sym (length-take-le base cols room))
      (λ i l. let h : i < base = omega (arith, length-take-le base cols' (omega (arith, room'))) in get_or-take base cols' i 0 h ∙ W.old i h ∙ sym (get_or-take base cols i 0 h)))

  lqs : length qs ≡ r
  lqs = length-take-le r (drop base cols') (omega (arith, length-drop base cols', room'))

  at_q : (i : ℕ) → i < length qs → (i < r) × (get_or qs i 0 ≡ get_or cols' (base + i) 0)
  at_q i l = let h : i < r = omega (arith, lqs) in (h, get_or-take r (drop base cols') i 0 h ∙ get_or-drop base cols' i 0)

  left_ps : (i : ℕ) → i < length ps → get_or ps i 0 < j * k
  left_ps i l = let h : i < base = omega (arith, length-take-le base cols room) in rw (get_or-take base cols i 0 h) (stage_left P.stage i h)

  from_qs : (i : ℕ) → i < length qs → j * k ≤ get_or qs i 0
  from_qs i l = let q = at_q i l in rw q.1 (W.here (base + i) (omega arith) (omega (arith, q.0)))

  left_qs : (i : ℕ) → i < length qs → get_or qs i 0 < j * k + k
  left_qs i l = let q = at_q i l in rw q.1 (omega (arith, stage_left W.stage (base + i) (omega (arith, q.0))))

  narrow_qs : (i : ℕ) → i < length qs → get_or qs i 0 < columns
  narrow_qs i l =
      let q = at_q i l in
      rw q.1 (pivot_narrow columns (get_or cols' (base + i) 0) (row N (base + i)) (clean' (base + i)) (W.stage.pivots (base + i) (omega (arith, q.0))))

  counted : added + a ≡ total_to table_additions k columns (take (base + r) cols') (j + 1)
  counted =
      ap₂ (λ (x q : ℕ). x + q) P.counted (e ∙ ap table_additions (sym lqs))
      ∙ sym (total_more table_additions k columns j ps qs left_ps from_qs left_qs narrow_qs)
      ∙ ap₂ (λ (X : List ℕ) (q : ℕ). total_to table_additions k columns X q) (sym split) (sym (add-one j))

  pub passed_next : Passed n columns k (j + 1) (base + r) (added + a) L N cols'
  passed_next = record {
    stage = record {
      upto = subst (λ (q : ℕ). Upto (q * k) (base + r) N) (sym (add-one j)) (go last);
      pivots = W.stage.pivots;
      none = W.stage.none;
      room = W.stage.room;
      whole = W.stage.whole;
    };
    space = space;
    counted = counted;
  }
    where
      go : (j * k + kw ≡ columns) ⊎ (kw ≡ k) → Upto (suc j * k) (base + r) N
      go (inl f) = upto_past (j * k + kw) (suc j * k) (base + r) columns N W.stage.upto (omega (arith, next)) (omega arith) clean'
      go (inr f) = subst (λ (q : ℕ). Upto q (base + r) N) (ap (λ (q : ℕ). j * k + q) f ∙ sym next) W.stage.upto

-- all windows done
pub finished : {n columns k j : ℕ} {r : Eliminated} {L N cols : List ℕ} → 0 < k → length N ≡ n → length L ≡ n → ((i : ℕ) → row L i < 2 ^ columns)
    → j ≡ windows k columns → Passed n columns k j r.rank r.additions L N cols → ReducedTo (additions k columns) L N r cols
finished {n = n} {columns = columns} {k = k} {j = j} {r = r} {L = L} {N = N} {cols = cols} hk lN lL clean e P = record {
  form = form_done t narrow (lN ∙ sym lL) P.space;
  rank_is = sym (rank_done t narrow);
  additions_are = P.counted ∙ ap₂ (λ (X : List ℕ) (q : ℕ). total_to table_additions k columns X q) (sym (pivots_done t narrow)) e;
  pivots_are = record_done t narrow;
}
  where
    t : Stage n (j * k) r.rank N cols
    t = P.stage

    narrow : (i : ℕ) → row N i < 2 ^ (j * k)
    narrow i = rw e (lt_of_lt_of_le (same_narrow columns L N P.space clean i) (pow_mono (windows_end k columns hk)))

-- ---- sizes

pub table_room : (r k w : ℕ) → r ≤ k → 2 ^ r * w ≤ 2 ^ k * w
table_room r k w h = mul-le-mul_right w (pow_mono {i = r} {j = k} h)

pub drop_more : (a b : ℕ) (x y : List ℕ) → a ≤ b → drop a x ≡ drop a y → drop b x ≡ drop b y
drop_more a b x y h e =
    let q : a + (b - a) ≡ b = omega arith in
    ap (λ (n : ℕ). drop n x) (sym q) ∙ sym (drop-drop (b - a) a x) ∙ ap (drop (b - a)) e ∙ drop-drop (b - a) a y ∙ ap (λ (n : ℕ). drop n y) q

pub steps_small : (j k b : ℕ) → 0 < k → j * k < b → j < b
steps_small j zero b h l = absurd (omega arith)
steps_small j (suc k) b h l = omega (arith, mul-suc j k)

-- a window starts left of the last column
pub starts_inside : {k columns j end : ℕ} → 0 < k → end ≡ windows k columns → j < end → j * k < columns
starts_inside {k} {columns} {j} least e l = window_starts k columns j least (omega arith)

pub pow_small : (r : ℕ) → r ≤ 8 → 2 ^ r ≤ 256
pow_small r h = pow_mono {i = r} {j = 8} h

pub no_additions : 0 ≡ table_additions 0
unfolding table_additions
no_additions = refl

-- ---- what clearing by the table needs once a window's search has found r pivots, and what it leaves past the room for the table

-- the pivot rows are zero in the words before the window's first
words_before : (w n c k base r : ℕ) (M h o cols : List ℕ) → c + k ≤ w * 64 → Search n c k k base r M h o cols
    → (i : ℕ) → base ≤ i → i < base + r → row M i % 2 ^ (64 * (w - (w - c / 64))) ≡ 0
words_before w n c k base r M h o cols hc S i a b =
    cut_zero (64 * (w - (w - c / 64))) (get_or cols i 0) (row M i) (omega (arith, S.here i a b)) (rw (S.pending.mine i a b) at (S.pivots i b))

pub window_applies : {w n c k base r : ℕ} {m t h o cols h₁ : List ℕ} → Sizes w n (length m) → c + k ≤ w * 64 → k ≤ 8 → 2 ^ k * w ≤ length t
    → Search n c k k base r (rows_of w n m) h o cols → length h₁ ≡ length h → ((i : ℕ) → i < n → get_or h₁ i 0 < 2 ^ r) → Applies w (w - c / 64) n base r m t h₁
window_applies {w = w} {n = n} {c = c} {k = k} {base = base} {r = r} {m = m} {h = h} {o = o} {cols = cols} z hc hk ht S lh small = record {
  sizes = z;
  inside = omega arith;
  rows = S.room;
  most = omega (arith, S.few, hk);
  table = omega (arith, ht, table_room r k w S.few);
  bytes = omega (arith, lh, S.size_h);
  small = small;
  low = words_before w n c k base r (rows_of w n m) h o cols hc S;
}

-- what lies past 2 ^ r rows lies past 2 ^ k
pub table_rest : (r k w : ℕ) (x y : List ℕ) → r ≤ k → drop (2 ^ r * w) x ≡ drop (2 ^ r * w) y → drop (2 ^ k * w) x ≡ drop (2 ^ k * w) y
table_rest r k w x y h = drop_more (2 ^ r * w) (2 ^ k * w) x y (table_room r k w h)

-- ---- matrix and table in one room: n rows, and a or b behind them

pub room_less : (w n a b len : ℕ) → a ≤ b → (n + b) * w ≤ len → (n + a) * w ≤ len
room_less w n a b len h l = le_trans (mul-le-mul_right w (omega arith)) l

pub room_rows : (w n b len : ℕ) → (n + b) * w ≤ len → n * w ≤ len
room_rows w n b len l = le_trans (mul-le-mul_right w (omega arith)) l

pub room_drop : (w n b : ℕ) (x y : List ℕ) → drop (n * w) x ≡ drop (n * w) y → drop ((n + b) * w) x ≡ drop ((n + b) * w) y
room_drop w n b x y = drop_more (n * w) ((n + b) * w) x y (mul-le-mul_right w (omega arith))

pub table_rest_in : (n r k w : ℕ) (x y : List ℕ) → r ≤ k → drop ((n + 2 ^ r) * w) x ≡ drop ((n + 2 ^ r) * w) y → drop ((n + 2 ^ k) * w) x ≡ drop ((n + 2 ^ k) * w) y
table_rest_in n r k w x y h =
    drop_more ((n + 2 ^ r) * w) ((n + 2 ^ k) * w) x y (mul-le-mul_right w (omega (arith, pow_mono {i = r} {j = k} h)))

-- a table takes at most 255 additions
pub table_small : (r : ℕ) → r ≤ 8 → table_additions r ≤ 255
unfolding table_additions
table_small r h = omega (arith, pow_small r h)

-- the table of a window of at most k <= 8 columns takes few additions
pub few_additions : {added r kw k : ℕ} → added ≡ table_additions r → r ≤ kw → kw ≤ k → k ≤ 8 → added ≤ 255
few_additions {added} {r} e few less most = omega (arith, e, table_small r (omega arith))
