-- The search in a window, step by step: a row settled, the pivot rows lifted, a column passed, a row taken.
use mathlib.Core.Path.{◌≡◌, refl, sym, ap, ap₂, ◌∙◌, subst}
use mathlib.Core.List.{List}
use mathlib.Core.Logic.{◌⊎◌, inl, inr}
use Prim.Native.Nat.{ℕ, suc, ◌+◌, ◌-◌, ◌*◌, ◌<◌, ◌≤◌}
use native.Mathlib.Nat.{add-zero}
use native.Mathlib.Decide.{dec_lt, ℕ_discrete}
use native.Mathlib.Omega.{arith}
use lib.Bits.{differ, xor_self, xor_zero_r}
use lib.ListN.{length, get_or, set, length-set, get_or-eq_default}
use lib.Seq.{get_or-set_same, get_or-set_other, set-set, set-get_or}
use Rattle.gf2.specs.Rows.{bit, ◌⊕◌, row, part, swapped, pick, RowSpace, SameRowSpace}
use Rattle.gf2.specs.Reduced.{Pivot}
use Rattle.words.specs.Words.{rows_of, window_bits}
use Rattle.method.specs.Stage.{Stage, Pending}
use Rattle.gf2.proofs.Bits.{bit_cases, bit_of_zero, bit_xor, xor_assoc}
use Rattle.gf2.proofs.Space.{pick_each, space_zero, space_xor, same_refl}
use Rattle.gf2.proofs.Pivot.{pivot_unique}
use Rattle.method.proofs.Upto.{upto_pass}
use Rattle.method.proofs.Pending.{part_has, pending_start, settled}
use Rattle.method.proofs.Taking.{clear_by, swap_to, swap_from, swap_other, swap_length, clear_other, pending_take, take_same, take_pivot, take_here, take_length}
use Rattle.method.proofs.WindowBits.{bit_window, window_clear}
use Rattle.engine.specs.Stage.{Own, Settled, Lifted, Search, Kept}

-- ---- settle

pub settle_start : (base s i : ℕ) (M cols : List ℕ) → Settled base s base i M cols M
settle_start base s i M cols = record {
  v = row M i;
  put = sym (set-get_or M i 0);
  space = rw (xor_self (row M i)) (space_zero (part base s M));
  clear = λ j a l. absurd (omega arith);
}

-- row i cleared in column c, which is that of pivot row p
pub settle_more : (w base s p i c : ℕ) (M cols N K : List ℕ) → Own w base s M cols → base ≤ p → p < base + s → base + s ≤ i → i < length M → Settled base s p i M cols N
    → c ≡ get_or cols p 0 → K ≡ set N i (row N i ⊕ pick (bit c (row N i)) (row N p)) → Settled base s (p + 1) i M cols K
unfolding pick
settle_more w base s p i c M cols N K own low high a hi S f e = record {
  v = v';
  put = e ∙ ap (λ (j : ℕ). set N i (row N i ⊕ pick (bit j (row N i)) (row N p))) f ∙ ap₂ (λ (x y : ℕ). set N i (x ⊕ pick (bit q x) y)) own_row pivot_row_lem
      ∙ ap (λ (L : List ℕ). set L i v') S.put ∙ set-set M i S.v v';
  space = rw (sym (xor_assoc (row M i) S.v t)) (space_xor (part base s M) (row M i ⊕ S.v) t S.space (pick_each (RowSpace (part base s M)) (bit q S.v) P (space_zero (part base s M)) has));
  clear = λ j b l. clear j b l (ℕ_discrete j p);
}
  where
    q : ℕ
    q = get_or cols p 0

    P : ℕ
    P = row M p

    t : ℕ
    t = pick (bit q S.v) P

    v' : ℕ
    v' = S.v ⊕ t

    has : RowSpace (part base s M) P
    has =
        let k : base + (p - base) ≡ p = omega arith in
        subst (λ (j : ℕ). RowSpace (part base s M) (row M j)) k (part_has base s M (p - base) (omega arith))

    own_row : row N i ≡ S.v
    own_row = ap (λ (L : List ℕ). row L i) S.put ∙ get_or-set_same M i S.v 0 hi

    pivot_row_lem : row N p ≡ P
    pivot_row_lem = ap (λ (L : List ℕ). row L p) S.put ∙ get_or-set_other M i p S.v 0 (omega arith)

    clear : (j : ℕ) → base ≤ j → j < p + 1 → Dec (j ≡ p) → bit (get_or cols j 0) v' ≡ 0
    clear j b l (yes g) = rw (g, bit_xor q S.v t) (go (bit_cases q S.v))
      where
        go : (bit q S.v ≡ 0) ⊎ (bit q S.v ≡ 1) → differ (bit q S.v) (bit q (pick (bit q S.v) P)) ≡ 0
        go (inl z) = rw (z, bit_of_zero q)
        go (inr o) = rw (o, own.one p low high)
    clear j b l (no n) =
        bit_xor (get_or cols j 0) S.v t
        ∙ ap₂ differ (S.clear j b (omega arith)) (pick_each (λ (y : ℕ). bit (get_or cols j 0) y ≡ 0) (bit q S.v) P (bit_of_zero (get_or cols j 0)) (own.clean j p b (omega arith) low high n))

-- ---- lift: pivot row p cleared

pub lift_start : (c base s : ℕ) (M : List ℕ) → Lifted c base s base M M
lift_start c base s M = record { up = λ j a l. absurd (omega arith); kept = λ j h. refl }

pub lift_more : (c base s p : ℕ) (M N K : List ℕ) → base ≤ p → p < base + s → base + s < length N → Lifted c base s p M N
    → K ≡ set N p (row N p ⊕ pick (bit c (row N p)) (row N (base + s))) → Lifted c base s (p + 1) M K
lift_more c base s p M N K low high hl S e = record { up = λ j a l. up j a l (ℕ_discrete j p); kept = kept }
  where
    v : ℕ
    v = row N p ⊕ pick (bit c (row N p)) (row N (base + s))

    here : row N p ≡ row M p
    here = S.kept p (inr (omega arith))

    top : row N (base + s) ≡ row M (base + s)
    top = S.kept (base + s) (inr (omega arith))

    up : (j : ℕ) → base ≤ j → j < p + 1 → Dec (j ≡ p) → row K j ≡ row M j ⊕ pick (bit c (row M j)) (row M (base + s))
    up j a l (yes f) =
        ap₂ row e f ∙ get_or-set_same N p v 0 (omega arith) ∙ ap₂ (λ (x y : ℕ). x ⊕ pick (bit c x) y) here top
        ∙ ap (λ (i : ℕ). row M i ⊕ pick (bit c (row M i)) (row M (base + s))) (sym f)
    up j a l (no n) = ap (λ (L : List ℕ). row L j) e ∙ get_or-set_other N p j v 0 n ∙ S.up j a (omega arith)

    kept : (j : ℕ) → (j < base) ⊎ (p + 1 ≤ j) → row K j ≡ row M j
    kept j (inl a) = ap (λ (L : List ℕ). row L j) e ∙ get_or-set_other N p j v 0 (omega arith) ∙ S.kept j (inl a)
    kept j (inr a) = ap (λ (L : List ℕ). row L j) e ∙ get_or-set_other N p j v 0 (omega arith) ∙ S.kept j (inr (omega arith))

-- ---- the search's state

module _ (n c k x base s : ℕ) (M h o cols : List ℕ) (S : Search n c k x base s M h o cols) where
  -- a recorded pivot column stands left of where the search is
  pub left_of : (i : ℕ) → i < base + s → get_or cols i 0 < c + x
  left_of i l =
      let t = S.pending.upto.used i l in
      omega (arith, t.1, pivot_unique (get_or cols i 0) t.0 (row S.F i) (S.pivots i l) t.2)

  pub own : (w : ℕ) → c + k ≤ w * 64 → x ≤ k → Own w base s M cols
  own w hc hx = record {
    wide = λ j a l. omega (arith, left_of j l);
    one = λ j a l. rw (sym (S.pending.mine j a l)) (S.pivots j l).one;
    clean = λ i j a l b m ne. rw (sym (S.pending.mine j b m)) (S.pending.upto.alone i j (get_or cols i 0) l (S.pivots i l) (λ e. ne (sym e)));
  }

  past : (i : ℕ) → n ≤ i → row S.F i ≡ 0
  past i a = get_or-eq_default S.F 0 {n = i} (omega (arith, S.size))

  -- a column with no one in the rows not yet used
  pub search_pass : x < k → ((i : ℕ) → base + s ≤ i → i < n → bit x (get_or o i 0) ≡ 0) → Search n c k (x + 1) base s M h o cols
  search_pass hx zeros = record {
    F = S.F;
    pending = subst (λ (y : ℕ). Pending y base s M S.F) e (record {
      upto = upto_pass (c + x) (base + s) S.F S.pending.upto (λ i l. no_one i l (dec_lt i n));
      mine = S.pending.mine;
      diff = S.pending.diff;
    });
    size = S.size;
    has = S.has;
    will = S.will;
    used = S.used;
    pivots = S.pivots;
    none = S.none;
    here = S.here;
    room = S.room;
    few = omega (arith, S.few);
    full = λ f. absurd (omega (arith, S.few, f));
    whole = S.whole;
    size_h = S.size_h;
    size_o = S.size_o;
  }
    where
      e : suc (c + x) ≡ c + (x + 1)
      e = omega arith

      no_one : (i : ℕ) → base + s ≤ i → Dec (i < n) → bit (c + x) (row S.F i) ≡ 0
      no_one i l (yes lt) = sym (bit_window c k x (row S.F i) hx) ∙ ap (bit x) (sym (S.will i l lt)) ∙ zeros i l lt
      no_one i l (no ge) = rw (past i (omega arith)) (bit_of_zero (c + x))

  -- row i is taken: settled, exchanged with row base + s, the pivot rows lifted, the numbers exchanged and swept
  module _ (i : ℕ) (N₁ N₂ N₃ o₃ : List ℕ) (lM : length M ≡ n) (hx : x < k) (a : base + s ≤ i) (hi : i < n) (one : bit x (get_or o i 0) ≡ 1)
      (st : Settled base s (base + s) i M cols N₁) (sw : N₂ ≡ swapped i (base + s) N₁) (li : Lifted (c + x) base s (base + s) N₂ N₃)
      (sp : (j : ℕ) → j < n → get_or o₃ j 0 ≡ get_or (set (set o i (get_or o (base + s) 0)) (base + s) 0) j 0 ⊕ pick (bit x (get_or (set (set o i (get_or o (base + s) 0)) (base + s) 0) j 0)) (get_or o i 0)) (l₃ : length o₃ ≡ n) where
    abbrev F : List ℕ
    F = S.F

    v_is : st.v ≡ row F i
    v_is =
        settled (c + x) base s M F S.pending i st.v (λ b l. omega arith) st.space
        (λ b q l f. rw (pivot_unique q (get_or cols (base + b) 0) (row M (base + b)) f (rw (S.pending.mine (base + b) (omega arith) (omega arith)) at (S.pivots (base + b) (omega arith)))) (st.clear (base + b) (omega arith) (omega arith)))

    abbrev M₁ : List ℕ
    M₁ = set M i (row F i)

    abbrev M₂ : List ℕ
    M₂ = swapped i (base + s) M₁

    placed : N₂ ≡ M₂
    placed = sw ∙ ap (swapped i (base + s)) (st.put ∙ ap (set M i) v_is)

    hM : i < length M
    hM = rw lM hi

    hF : i < length F
    hF = rw S.size hi

    oneF : bit (c + x) (row F i) ≡ 1
    oneF = sym (bit_window c k x (row F i) hx) ∙ ap (bit x) (sym (S.will i a hi)) ∙ one

    up : (j : ℕ) → base ≤ j → j < base + s → row N₃ j ≡ row M₂ j ⊕ pick (bit (c + x) (row M₂ j)) (row M₂ (base + s))
    up j b l = li.up j b l ∙ ap (λ (L : List ℕ). row L j ⊕ pick (bit (c + x) (row L j)) (row L (base + s))) placed

    kept : (j : ℕ) → (j < base) ⊎ (base + s ≤ j) → row N₃ j ≡ row M₂ j
    kept j b = li.kept j b ∙ ap (λ (L : List ℕ). row L j) placed

    abbrev F₂ : List ℕ
    F₂ = swapped i (base + s) F

    abbrev G : List ℕ
    G = clear_by (c + x) (base + s) F₂

    pub search_same : SameRowSpace M N₃
    search_same = take_same (c + x) base s i M F S.pending a hM hF N₃ oneF up kept

    hp : base + s < length F
    hp = omega (arith, hF)

    abbrev o₁ : List ℕ
    o₁ = set o i (get_or o (base + s) 0)

    abbrev o₂ : List ℕ
    o₂ = set o₁ (base + s) 0

    -- the numbers of the rows not yet used, after the exchange
    will₂ : (j : ℕ) → base + s < j → j < n → get_or o₂ j 0 ≡ window_bits c k (row F₂ j)
    will₂ j b l = get_or-set_other o₁ (base + s) j 0 0 (omega arith) ∙ go (ℕ_discrete j i)
      where
        go : Dec (j ≡ i) → get_or o₁ j 0 ≡ window_bits c k (row F₂ j)
        go (yes e) =
            ap (λ (q : ℕ). get_or o₁ q 0) e ∙ get_or-set_same o i (get_or o (base + s) 0) 0 (omega (arith, S.size_o)) ∙ S.will (base + s) (omega arith) (omega arith)
            ∙ ap (window_bits c k) (sym (swap_from i (base + s) F hF hp) ∙ ap (row F₂) (sym e))
        go (no m) = get_or-set_other o i j (get_or o (base + s) 0) 0 m ∙ S.will j (omega arith) l ∙ ap (window_bits c k) (sym (swap_other i (base + s) F hF hp j m (omega arith)))

    -- and those of the rows used
    used₂ : (j : ℕ) → j < base + (s + 1) → Dec (j ≡ base + s) → get_or o₂ j 0 ≡ 0
    used₂ j l (yes e) = ap (λ (q : ℕ). get_or o₂ q 0) e ∙ get_or-set_same o₁ (base + s) 0 0 (rw length-set (omega (arith, S.size_o)))
    used₂ j l (no m) = get_or-set_other o₁ (base + s) j 0 0 m ∙ get_or-set_other o i j (get_or o (base + s) 0) 0 (omega arith) ∙ S.used j (omega arith)

    -- the bits that the rows not yet used have
    has₂ : (j : ℕ) → base + s < j → j < n → Dec (j ≡ i) → get_or (set h i (get_or h (base + s) 0)) j 0 ≡ window_bits c k (row M₂ j)
    has₂ j b l (yes e) =
        ap (λ (q : ℕ). get_or (set h i (get_or h (base + s) 0)) q 0) e ∙ get_or-set_same h i (get_or h (base + s) 0) 0 (omega (arith, S.size_h)) ∙ S.has (base + s) (omega arith) (omega arith)
        ∙ ap (window_bits c k) (sym (get_or-set_other M i (base + s) (row F i) 0 (omega arith)) ∙ sym (swap_from i (base + s) M₁ (rw length-set hM) (rw length-set (omega (arith, hM)))) ∙ ap (row M₂) (sym e))
    has₂ j b l (no m) =
        get_or-set_other h i j (get_or h (base + s) 0) 0 m ∙ S.has j (omega arith) l
        ∙ ap (window_bits c k) (sym (get_or-set_other M i j (row F i) 0 m) ∙ sym (swap_other i (base + s) M₁ (rw length-set hM) (rw length-set (omega (arith, hM))) j m (omega arith)))

    pub search_take : Search n c k (x + 1) base (s + 1) N₃ (set h i (get_or h (base + s) 0)) o₃ (set cols (base + s) (c + x))
    unfolding pick
    search_take = record {
      F = G;
      pending = subst (λ (y : ℕ). Pending y base (s + 1) N₃ G) e₁
          (subst (λ (t : ℕ). Pending (suc (c + x)) base t N₃ G) e₂ (pending_take (c + x) base s i M F S.pending a hM hF N₃ oneF up kept));
      size = take_length (c + x) base s i M F S.pending a hM hF N₃ oneF up kept ∙ S.size;
      has = λ j b l. has₂ j (omega arith) l (ℕ_discrete j i) ∙ ap (window_bits c k) (sym (kept j (inr (omega arith))));
      will = will;
      used = used;
      pivots = λ j l. pivots j l (ℕ_discrete j (base + s));
      none = λ j b l. get_or-set_other cols (base + s) j (c + x) 0 (omega arith) ∙ S.none j (omega arith) (rw length-set at l);
      here = λ j b l. here j b l (ℕ_discrete j (base + s));
      room = omega arith;
      few = omega (arith, S.few);
      full = λ f b l. full f b l (ℕ_discrete b s);
      whole = rw length-set S.whole;
      size_h = rw length-set S.size_h;
      size_o = l₃;
    }
      where
        e₁ : suc (c + x) ≡ c + (x + 1)
        e₁ = omega arith

        e₂ : suc s ≡ s + 1
        e₂ = omega arith

        hF₂ : base + s < length F₂
        hF₂ = rw (swap_length i (base + s) F hF hp) hp

        will : (j : ℕ) → base + (s + 1) ≤ j → j < n → get_or o₃ j 0 ≡ window_bits c k (row G j)
        will j b l =
            sp j l
            ∙ ap₂ (λ (y b : ℕ). y ⊕ pick (bit x y) b) (will₂ j (omega arith) l) (S.will i a hi ∙ ap (window_bits c k) (sym (swap_to i (base + s) F hF hp)))
            ∙ sym (window_clear c k x (row F₂ j) (row F₂ (base + s)) hx)
            ∙ ap (window_bits c k) (sym (clear_other (c + x) (base + s) F₂ hF₂ j (omega arith)))

        used : (j : ℕ) → j < base + (s + 1) → get_or o₃ j 0 ≡ 0
        used j l = sp j (omega arith) ∙ rw (used₂ j l (ℕ_discrete j (base + s)), bit_of_zero x) (xor_zero_r 0)

        pivots : (j : ℕ) → j < base + (s + 1) → Dec (j ≡ base + s) → Pivot (get_or (set cols (base + s) (c + x)) j 0) (row G j)
        pivots j l (yes e) =
            rw (e, get_or-set_same cols (base + s) (c + x) 0 (omega (arith, S.whole))) (take_here (c + x) base s i M F S.pending a hM hF N₃ oneF up kept)
        pivots j l (no m) =
            rw (get_or-set_other cols (base + s) j (c + x) 0 m)
            (take_pivot (c + x) base s i M F S.pending a hM hF N₃ oneF up kept j (get_or cols j 0) (omega arith) (left_of j (omega arith)) (S.pivots j (omega arith)))

        full : s + 1 ≡ x + 1 → (b : ℕ) → b < s + 1 → Dec (b ≡ s) → get_or (set cols (base + s) (c + x)) (base + b) 0 ≡ c + b
        full f b l (yes e) =
            let d : x ≡ b = omega arith in
            rw (e, get_or-set_same cols (base + s) (c + x) 0 (omega (arith, S.whole))) (ap (λ (q : ℕ). c + q) (d ∙ e))
        full f b l (no m) = get_or-set_other cols (base + s) (base + b) (c + x) 0 (omega arith) ∙ S.full (omega arith) b (omega arith)

        here : (j : ℕ) → base ≤ j → j < base + (s + 1) → Dec (j ≡ base + s) → c ≤ get_or (set cols (base + s) (c + x)) j 0
        here j b l (yes e) = rw (e, get_or-set_same cols (base + s) (c + x) 0 (omega (arith, S.whole))) (omega arith)
        here j b l (no m) = rw (get_or-set_other cols (base + s) j (c + x) 0 m) (S.here j b (omega arith))

    pub search_taken : Search n c k (x + 1) base (s + 1) N₃ (set h i (get_or h (base + s) 0)) o₃ (set cols (base + s) (c + x)) × SameRowSpace M N₃
    search_taken = (search_take, search_same)

-- where nothing changes all is kept
pub kept_all : (w n base : ℕ) (m cols : List ℕ) → Kept w n base m m cols cols
kept_all w n base m cols = record { space = same_refl (rows_of w n m); past = refl; old = λ i l. refl }

-- no pivot yet: rows have the bits that they will have
pub search_start : (n c k base : ℕ) (M h o cols : List ℕ) → length M ≡ n → Stage n c base M cols → length h ≡ n → length o ≡ n
    → ((i : ℕ) → base ≤ i → i < n → get_or h i 0 ≡ window_bits c k (row M i)) → ((i : ℕ) → base ≤ i → i < n → get_or o i 0 ≡ get_or h i 0) → ((i : ℕ) → i < base → get_or o i 0 ≡ 0)
    → Search n c k 0 base 0 M h o cols
search_start n c k base M h o cols lM t lh lo has same used = record {
  F = M;
  pending = pending_start (c + 0) base M (rw add-zero t.upto);
  size = lM;
  has = λ i a l. has i (omega arith) l;
  will = λ i a l. same i (omega arith) l ∙ has i (omega arith) l;
  used = λ i l. used i (omega arith);
  pivots = λ i l. t.pivots i (omega arith);
  none = λ i a l. t.none i (omega arith) l;
  here = λ i a l. absurd (omega arith);
  room = omega (arith, t.room);
  few = omega arith;
  full = λ f b l. absurd (omega arith);
  whole = t.whole;
  size_h = lh;
  size_o = lo;
}
