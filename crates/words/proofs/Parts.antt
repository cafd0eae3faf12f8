-- Parts of a list of words, and loops that store word after word: after j turns the list is `paste m₀ a X j`, the list as it was
-- with the first j words of X from word a on. Each law named `..-turn` is one turn of such a loop.
use mathlib.Core.Path.{◌≡◌, refl, sym, ap, ap₂, ◌∙◌, subst}
use mathlib.Core.List.{List, [], ◌∷◌, ◌++◌}
use mathlib.Core.Logic.{◌⊎◌, ⊎_elim}
use Prim.Native.Nat.{ℕ, zero, suc, ◌+◌, ◌-◌, ◌<◌, ◌≤◌}
use native.Mathlib.Nat.{zero-add, le_of_suc-le-suc, not-suc-le-zero, suc-add}
use native.Mathlib.Numerals.{add-one}
use native.Mathlib.Omega.{arith}
use lib.Bits.{bit_xor, xor_zero_r}
use lib.ListN.{length, get_or, take, drop, set, replicate, length-drop, length-replicate, get_or-replicate, get_or-append}
use lib.Seq.{paste, paste-suc, length-paste, length_paste_head, ext_get_or, get_or-append-add, get_or-take, get_or-drop, length-take-le, set-append_left, take-set-lt, drop-set-lt, drop-set-add, take-set-le, drop-drop, drop-paste}
use Rattle.gf2.specs.Rows.{part}
use Rattle.words.specs.Words.{xors}

-- two parts of w words that do not overlap
abbrev pub Apart : ℕ → ℕ → ℕ → Type 0
Apart a b w = (a + w ≤ b) ⊎ (b + w ≤ a)

-- ---- word by word

pub length_xors : (x y : List ℕ) → length (xors x y) ≡ length x
length_xors [] ys = refl
length_xors (x ∷ xs) [] = refl
length_xors (x ∷ xs) (y ∷ ys) = ap suc (length_xors xs ys)

pub get_or_xors : (x y : List ℕ) (j : ℕ) → j < length x → get_or (xors x y) j 0 ≡ bit_xor (get_or x j 0) (get_or y j 0)
get_or_xors [] ys j h = absurd (not-suc-le-zero h)
get_or_xors (x ∷ xs) [] j h = sym (xor_zero_r (get_or (x ∷ xs) j 0))
get_or_xors (x ∷ xs) (y ∷ ys) zero h = refl
get_or_xors (x ∷ xs) (y ∷ ys) (suc j) h = get_or_xors xs ys j (le_of_suc-le-suc h)

-- ---- the w words from word a on

pub length_part : (a w : ℕ) (m : List ℕ) → a + w ≤ length m → length (part a w m) ≡ w
length_part a w m h = length-take-le w (drop a m) (omega (arith, length-drop a m))

pub get_or_part : (a w : ℕ) (m : List ℕ) (j : ℕ) → j < w → get_or (part a w m) j 0 ≡ get_or m (a + j) 0
get_or_part a w m j h = get_or-take w (drop a m) j 0 h ∙ get_or-drop a m j 0

-- two lists that agree on the words of a part
pub part_same : (p m : List ℕ) (a w : ℕ) → a + w ≤ length p → a + w ≤ length m → ((j : ℕ) → j < w → get_or p (a + j) 0 ≡ get_or m (a + j) 0) → part a w p ≡ part a w m
part_same p m a w hp hm same =
    ext_get_or 0 (part a w p) (part a w m) (length_part a w p hp ∙ sym (length_part a w m hm)) (λ j h. here j (subst (λ (k : ℕ). j < k) (length_part a w p hp) h))
  where
    here : (j : ℕ) → j < w → get_or (part a w p) j 0 ≡ get_or (part a w m) j 0
    here j h = get_or_part a w p j h ∙ same j h ∙ sym (get_or_part a w m j h)

-- ---- the words of a list into which the first j words of x were stored, from word a on

module _ (m : List ℕ) (a : ℕ) (x : List ℕ) (j : ℕ) (hm : a + j ≤ length m) (hx : j ≤ length x) where
  pub paste_before : (i : ℕ) → i < a → get_or (paste m a x j) i 0 ≡ get_or m i 0
  paste_before i h =
      get_or-append (take a m ++ take j x) (drop (a + j) m) 0 i (omega (arith, length_paste_head m a x j (omega arith) hx))
      ∙ get_or-append (take a m) (take j x) 0 i (omega (arith, length-take-le a m (omega arith)))
      ∙ get_or-take a m i 0 h

  pub paste_in : (i : ℕ) → i < j → get_or (paste m a x j) (a + i) 0 ≡ get_or x i 0
  paste_in i h =
      let l : length (take a m) ≡ a = length-take-le a m (omega arith) in
      get_or-append (take a m ++ take j x) (drop (a + j) m) 0 (a + i) (omega (arith, length_paste_head m a x j (omega arith) hx))
      ∙ subst (λ (k : ℕ). get_or (take a m ++ take j x) (k + i) 0 ≡ get_or (take j x) i 0) l (get_or-append-add (take a m) (take j x) i 0)
      ∙ get_or-take j x i 0 h

  pub paste_after : (i : ℕ) → a + j ≤ i → get_or (paste m a x j) i 0 ≡ get_or m i 0
  paste_after i h =
      let e : length (take a m ++ take j x) + (i - (a + j)) ≡ i = omega (arith, length_paste_head m a x j (omega arith) hx) in
      subst (λ (k : ℕ). get_or (paste m a x j) k 0 ≡ get_or (drop (a + j) m) (i - (a + j)) 0) e
      (get_or-append-add (take a m ++ take j x) (drop (a + j) m) (i - (a + j)) 0)
      ∙ get_or-drop (a + j) m (i - (a + j)) 0
      ∙ ap (λ (k : ℕ). get_or m k 0) (omega arith)

-- what lies past the stored words
pub drop_past : (m : List ℕ) (a : ℕ) (x : List ℕ) (j e : ℕ) → a + j ≤ e → a ≤ length m → j ≤ length x → drop e (paste m a x j) ≡ drop e m
drop_past m a x j e h hm hx =
    let k : ℕ = e - (a + j) in
    let p : a + j + k ≡ e = omega arith in
    ap (λ (i : ℕ). drop i (paste m a x j)) (sym p) ∙ sym (drop-drop k (a + j) (paste m a x j)) ∙ ap (drop k) (drop-paste m a x j hm hx)
    ∙ drop-drop k (a + j) m ∙ ap (λ (i : ℕ). drop i m) p

-- ---- any loop `m[a + j] = v` where v is word j of x
pub paste_more : (m₀ m : List ℕ) (a : ℕ) (x : List ℕ) (j v : ℕ) → m ≡ paste m₀ a x j → a + j < length m₀ → j < length x → v ≡ get_or x j 0
    → set m (a + j) v ≡ paste m₀ a x (j + 1)
paste_more m₀ m a x j v e hm hx ev = rw (e, ev, add-one) (paste-suc m₀ a x j 0 hm hx)

-- what turn j of such a loop of w turns reads in its own list: the word that it is about to replace, and word j of a part apart from it
module _ (m₀ m : List ℕ) (a : ℕ) (x : List ℕ) (j w : ℕ) (e : m ≡ paste m₀ a x j) (h : j < w) (ha : a + w ≤ length m₀) (hx : length x ≡ w) where
  read_own : get_or m (a + j) 0 ≡ get_or (part a w m₀) j 0
  read_own = ap (λ (l : List ℕ). get_or l (a + j) 0) e ∙ paste_after m₀ a x j (omega arith) (omega arith) (a + j) (omega arith) ∙ sym (get_or_part a w m₀ j h)

  read_apart : (b : ℕ) → Apart a b w → get_or m (b + j) 0 ≡ get_or (part b w m₀) j 0
  read_apart b far =
      ap (λ (l : List ℕ). get_or l (b + j) 0) e
      ∙ ⊎_elim (λ l. paste_after m₀ a x j (omega arith) (omega arith) (b + j) (omega arith))
      (λ l. paste_before m₀ a x j (omega arith) (omega arith) (b + j) (omega arith)) far
      ∙ sym (get_or_part b w m₀ j h)

-- any loop `m[a + j] = u ^ v` where u is word j of x, and v of y
xors_more : (m₀ m : List ℕ) (a : ℕ) (x y : List ℕ) (j u v : ℕ) → m ≡ paste m₀ a (xors x y) j → a + j < length m₀ → j < length x
    → u ≡ get_or x j 0 → v ≡ get_or y j 0 → set m (a + j) (bit_xor u v) ≡ paste m₀ a (xors x y) (j + 1)
xors_more m₀ m a x y j u v e hm hx eu ev =
    paste_more m₀ m a (xors x y) j (bit_xor u v) e hm (omega (arith, length_xors x y)) (ap₂ bit_xor eu ev ∙ sym (get_or_xors x y j hx))

-- ---- the loops

-- d[a + j] = s[b + j]
pub copy_turn : (d₀ s d : List ℕ) (a b w j : ℕ) → d ≡ paste d₀ a (part b w s) j → j < w → a + w ≤ length d₀ → b + w ≤ length s
    → set d (a + j) (get_or s (b + j) 0) ≡ paste d₀ a (part b w s) (j + 1)
copy_turn d₀ s d a b w j e h ha hb = paste_more d₀ d a (part b w s) j _ e (omega arith) (omega (arith, length_part b w s hb)) (sym (get_or_part b w s j h))

-- t[a + j] = 0
pub fill_turn : (t₀ t : List ℕ) (a w j : ℕ) → t ≡ paste t₀ a (replicate w 0) j → j < w → a + w ≤ length t₀ → set t (a + j) 0 ≡ paste t₀ a (replicate w 0) (j + 1)
fill_turn t₀ t a w j e h ha =
    paste_more t₀ t a (replicate w 0) j 0 e (omega arith) (omega (arith, length-replicate {A = ℕ} w 0)) (sym (get_or-replicate {A = ℕ} w j 0 0 h))

-- m[a + j] = m[a + j] ^ t[b + j]
pub add_turn : (m₀ t m : List ℕ) (a b w j : ℕ) → m ≡ paste m₀ a (xors (part a w m₀) (part b w t)) j → j < w → a + w ≤ length m₀
    → set m (a + j) (bit_xor (get_or m (a + j) 0) (get_or t (b + j) 0)) ≡ paste m₀ a (xors (part a w m₀) (part b w t)) (j + 1)
add_turn m₀ t m a b w j e h ha =
    let lx : length (part a w m₀) ≡ w = length_part a w m₀ ha in
    xors_more m₀ m a (part a w m₀) (part b w t) j _ _ e (omega arith) (omega arith)
    (read_own m₀ m a (xors (part a w m₀) (part b w t)) j w e h ha (length_xors (part a w m₀) (part b w t) ∙ lx))
    (sym (get_or_part b w t j h))

-- m[a + j] = m[a + j] ^ m[b + j]
pub within_turn : (m₀ m : List ℕ) (a b w j : ℕ) → m ≡ paste m₀ a (xors (part a w m₀) (part b w m₀)) j → j < w → a + w ≤ length m₀ → Apart a b w
    → set m (a + j) (bit_xor (get_or m (a + j) 0) (get_or m (b + j) 0)) ≡ paste m₀ a (xors (part a w m₀) (part b w m₀)) (j + 1)
within_turn m₀ m a b w j e h ha far =
    let x : List ℕ = xors (part a w m₀) (part b w m₀) in
    let lx : length (part a w m₀) ≡ w = length_part a w m₀ ha in
    let l : length x ≡ w = length_xors (part a w m₀) (part b w m₀) ∙ lx in
    xors_more m₀ m a (part a w m₀) (part b w m₀) j _ _ e (omega arith) (omega arith)
    (read_own m₀ m a x j w e h ha l)
    (read_apart m₀ m a x j w e h ha l b far)

-- a store outside the stored words
module _ (m : List ℕ) (a : ℕ) (x : List ℕ) (j i v : ℕ) (hm : a + j ≤ length m) (hx : j ≤ length x) where
  set_before : i < a → set (paste m a x j) i v ≡ paste (set m i v) a x j
  set_before h =
      set-append_left (take a m ++ take j x) (drop (a + j) m) i v (omega (arith, length_paste_head m a x j (omega arith) hx))
      ∙ ap (λ (l : List ℕ). l ++ drop (a + j) m) (set-append_left (take a m) (take j x) i v (omega (arith, length-take-le a m (omega arith))))
      ∙ ap (λ (l : List ℕ). l ++ take j x ++ drop (a + j) m) (sym (take-set-lt a m i v h))
      ∙ ap (λ (l : List ℕ). take a (set m i v) ++ take j x ++ l) (sym (drop-set-lt (a + j) m i v (omega arith)))

  set_after : a + j ≤ i → set (paste m a x j) i v ≡ paste (set m i v) a x j
  set_after h =
      let k : ℕ = i - (a + j) in
      let e : length (take a m ++ take j x) + k ≡ i = omega (arith, length_paste_head m a x j (omega arith) hx) in
      let e₂ : a + j + k ≡ i = omega arith in
      subst (λ (n : ℕ). set (paste m a x j) n v ≡ (take a m ++ take j x) ++ set (drop (a + j) m) k v) e (past (take a m ++ take j x) (drop (a + j) m) k)
      ∙ ap (λ (l : List ℕ). take a m ++ take j x ++ l) (sym (drop-set-add (a + j) m k v) ∙ ap (λ (n : ℕ). drop (a + j) (set m n v)) e₂)
      ∙ ap (λ (l : List ℕ). l ++ take j x ++ drop (a + j) (set m i v)) (sym (take-set-le a m i v (omega arith)))
    where
      past : (xs ys : List ℕ) (n : ℕ) → set (xs ++ ys) (length xs + n) v ≡ xs ++ set ys n v
      past [] ys n = ap (λ (k : ℕ). set ys k v) (zero-add n)
      past (y ∷ xs) ys n = ap (λ (k : ℕ). set (y ∷ xs ++ ys) k v) (suc-add (length xs) n) ∙ ap (λ (l : List ℕ). y ∷ l) (past xs ys n)

-- m[a + j] and m[b + j] exchanged
pub swap_turn : (m₀ m : List ℕ) (a b w j : ℕ) → m ≡ paste (paste m₀ a (part b w m₀) j) b (part a w m₀) j → j < w → a + w ≤ length m₀ → b + w ≤ length m₀ → Apart a b w
    → set (set m (a + j) (get_or m (b + j) 0)) (b + j) (get_or m (a + j) 0) ≡ paste (paste m₀ a (part b w m₀) (j + 1)) b (part a w m₀) (j + 1)
swap_turn m₀ m a b w j e h ha hb far =
    let A : List ℕ = part a w m₀ in
    let B : List ℕ = part b w m₀ in
    let lA : length A ≡ w = length_part a w m₀ ha in
    let lB : length B ≡ w = length_part b w m₀ hb in
    let P : List ℕ = paste m₀ a B j in
    let lP : length P ≡ length m₀ = length-paste m₀ a B j (omega arith) (omega arith) in
    let at_b : get_or (paste P b A j) (b + j) 0 ≡ get_or B j 0 =
    paste_after P b A j (omega arith) (omega arith) (b + j) (omega arith) ∙ read_apart m₀ P a B j w refl h ha lB b far in
    let atA : get_or (paste P b A j) (a + j) 0 ≡ get_or A j 0 =
    ⊎_elim (λ l. paste_before P b A j (omega arith) (omega arith) (a + j) (omega arith))
    (λ l. paste_after P b A j (omega arith) (omega arith) (a + j) (omega arith)) far
    ∙ read_own m₀ P a B j w refl h ha lB in
    let out : set (paste P b A j) (a + j) (get_or B j 0) ≡ paste (set P (a + j) (get_or B j 0)) b A j =
    ⊎_elim (λ l. set_before P b A j (a + j) (get_or B j 0) (omega arith) (omega arith) (omega arith))
    (λ l. set_after P b A j (a + j) (get_or B j 0) (omega arith) (omega arith) (omega arith)) far in
    let P' : List ℕ = paste m₀ a B (j + 1) in
    let lP' : length P' ≡ length m₀ = length-paste m₀ a B (j + 1) (omega arith) (omega arith) in
    ap (λ (l : List ℕ). set (set l (a + j) (get_or l (b + j) 0)) (b + j) (get_or l (a + j) 0)) e
    ∙ ap₂ (λ (x y : ℕ). set (set (paste P b A j) (a + j) x) (b + j) y) at_b atA
    ∙ ap (λ (l : List ℕ). set l (b + j) (get_or A j 0)) (out ∙ ap (λ (l : List ℕ). paste l b A j) (paste_more m₀ P a B j _ refl (omega arith) (omega arith) refl))
    ∙ paste_more P' (paste P' b A j) b A j _ refl (omega arith) (omega arith) refl
