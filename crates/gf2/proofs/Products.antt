-- Rows given by a rule; the identity; products.
use mathlib.Core.Path.{◌≡◌, refl, sym, ap, ap₂, ◌∙◌}
use mathlib.Core.List.{List, [], ◌∷◌, map}
use Prim.Native.Nat.{ℕ, zero, suc, ◌+◌, ◌*◌, ◌/◌, ◌%◌, ◌^◌, ◌≤◌, ◌<◌}
use native.Mathlib.Decide.{dec_lt}
use native.Mathlib.Nat.{add-zero, mul-one, mul_assoc, one-mul, add-mul, mod-eq_of_lt, zero-mul, pow-succ'}
use native.Mathlib.Numerals.{add-one}
use native.Mathlib.Omega.{arith}
use lib.Bits.{xor_zero_r, xor_comm, xor_shifted}
use lib.ListN.{get_or-map, length, get_or, length-map}
use lib.Pow.{pow_pos, pow-lt, mod-pow-add}
use lib.Seq.{ext_get_or}
use Rattle.gf2.specs.Rows.{◌⊕◌, row, pick, combine, tabulate}
use Rattle.gf2.specs.Inverse.{identity, product}
use Rattle.gf2.proofs.Bits.{half_lt, xor_four}
use Rattle.gf2.proofs.Space.{pick_sum, combine_zero, combine_pow, combine_xor, combine_map}

-- ---- rows by a rule

pub tabulate_row : (n : ℕ) (f : ℕ → ℕ) (j : ℕ) → j < n → row (tabulate n f) j ≡ f j
unfolding tabulate
tabulate_row zero f j h = absurd (omega arith)
tabulate_row (suc n) f zero h = refl
tabulate_row (suc n) f (suc j) h = tabulate_row n (λ i. f (suc i)) j (omega arith)

pub tabulate_past : (n : ℕ) (f : ℕ → ℕ) (j : ℕ) → n ≤ j → row (tabulate n f) j ≡ 0
unfolding tabulate
tabulate_past zero f j h = refl
tabulate_past (suc n) f zero h = absurd (omega arith)
tabulate_past (suc n) f (suc j) h = tabulate_past n (λ i. f (suc i)) j (omega arith)

pub tabulate_length : (n : ℕ) (f : ℕ → ℕ) → length (tabulate n f) ≡ n
unfolding tabulate
tabulate_length zero f = refl
tabulate_length (suc n) f = ap suc (tabulate_length n (λ i. f (suc i)))

-- what holds of zero and of each f j
pub tabulate_each : (P : ℕ → Type 0) (n : ℕ) (f : ℕ → ℕ) → P 0 → ((j : ℕ) → j < n → P (f j)) → (j : ℕ) → P (row (tabulate n f) j)
tabulate_each P n f z h j = go (dec_lt j n)
  where
    go : Dec (j < n) → P (row (tabulate n f) j)
    go (yes l) = rw (tabulate_row n f j l) (h j l)
    go (no m) = rw (tabulate_past n f j (omega arith)) z

-- a list of n rows, each by the rule
pub is_tabulate : (L : List ℕ) (n : ℕ) (f : ℕ → ℕ) → length L ≡ n → ((i : ℕ) → i < n → row L i ≡ f i) → L ≡ tabulate n f
is_tabulate L n f e h =
    ext_get_or 0 L (tabulate n f) (e ∙ sym (tabulate_length n f)) (λ i l. h i (omega arith) ∙ sym (tabulate_row n f i (omega arith)))

pub tabulate_rows : (L : List ℕ) → tabulate (length L) (row L) ≡ L
tabulate_rows L = sym (is_tabulate L (length L) (row L) refl (λ i l. refl))

pub tabulate_same : (n : ℕ) (f g : ℕ → ℕ) → ((i : ℕ) → f i ≡ g i) → tabulate n f ≡ tabulate n g
tabulate_same n f g h = is_tabulate (tabulate n f) n g (tabulate_length n f) (λ i l. tabulate_row n f i l ∙ h i)

-- a row of a list that f was put to, where f keeps zero
pub map_row : (f : ℕ → ℕ) → f 0 ≡ 0 → (L : List ℕ) (i : ℕ) → row (map f L) i ≡ f (row L i)
map_row f z L i = ap (λ (d : ℕ). get_or (map f L) i d) (sym z) ∙ get_or-map f L i 0

pub combine_tabulate_xor : (n : ℕ) (f g : ℕ → ℕ) (c : ℕ) → combine c (tabulate n (λ j. f j ⊕ g j)) ≡ combine c (tabulate n f) ⊕ combine c (tabulate n g)
unfolding tabulate combine
combine_tabulate_xor zero f g c = sym (xor_zero_r 0)
combine_tabulate_xor (suc n) f g c =
    rw (combine_tabulate_xor n (λ i. f (suc i)) (λ i. g (suc i)) (c / 2), pick_sum (c % 2) (f 0) (g 0))
    (xor_four (pick (c % 2) (f 0)) (pick (c % 2) (g 0)) (combine (c / 2) (tabulate n (λ i. f (suc i)))) (combine (c / 2) (tabulate n (λ i. g (suc i)))))

-- ---- the identity

pick_mul : (b r : ℕ) → b < 2 → pick b r ≡ b * r
unfolding pick
pick_mul zero r h = sym (zero-mul r)
pick_mul (suc zero) r h = sym (one-mul r)
pick_mul (suc (suc b)) r h = absurd (omega arith)

-- ones from column w on, one a row: their sums are the low columns of c, moved up
pub combine_units : (w m c : ℕ) → combine c (tabulate m (λ i. 2 ^ (w + i))) ≡ c % 2 ^ m * 2 ^ w
unfolding tabulate combine
combine_units w zero c = let e : c % 1 ≡ 0 = omega arith in rw e (sym (zero-mul (2 ^ w)))
combine_units w (suc m) c =
    ap₂ (λ (x y : ℕ). x ⊕ y)
    (ap (λ (x : ℕ). pick (c % 2) (2 ^ x)) (add-zero w) ∙ pick_mul (c % 2) (2 ^ w) (half_lt c))
    (ap (combine (c / 2)) (tabulate_same m (λ i. 2 ^ (w + suc i)) (λ i. 2 ^ (suc w + i)) (λ i. ap (λ (x : ℕ). 2 ^ x) (omega arith))) ∙ combine_units (suc w) m (c / 2))
    ∙ join (c / 2 % 2 ^ m) (c % 2) (half_lt c)
    ∙ ap (λ (x : ℕ). x * 2 ^ w) (sym (rw add-one at (mod-pow-add c m 1)))
  where
    join : (h b : ℕ) → b < 2 → b * 2 ^ w ⊕ h * 2 ^ suc w ≡ (h * 2 + b) * 2 ^ w
    join h b l =
        let less : b * 2 ^ w < 2 ^ suc w = small b l in
        xor_comm (b * 2 ^ w) (h * 2 ^ suc w) ∙ xor_shifted h (suc w) (b * 2 ^ w) less
        ∙ ap (λ (x : ℕ). x + b * 2 ^ w) (ap (λ (x : ℕ). h * x) (pow-succ' 2 w) ∙ sym (mul_assoc h 2 (2 ^ w)))
        ∙ sym (add-mul (h * 2) b (2 ^ w))
      where
        small : (b : ℕ) → b < 2 → b * 2 ^ w < 2 ^ suc w
        small zero l = rw (zero-mul (2 ^ w)) (pow_pos (suc w))
        small (suc zero) l = rw (one-mul (2 ^ w)) (pow-lt (omega arith))
        small (suc (suc b)) l = absurd (omega arith)

pub combine_identity : (c n : ℕ) → combine c (identity n) ≡ c % 2 ^ n
combine_identity c n =
    ap (combine c) (tabulate_same n (λ i. 2 ^ i) (λ i. 2 ^ (0 + i)) (λ i. ap (λ (x : ℕ). 2 ^ x) (omega arith))) ∙ combine_units 0 n c ∙ mul-one (c % 2 ^ n)

-- ---- products

-- a sum of rows of a product is the product's row for the sum
combine_product : (c : ℕ) (A B : List ℕ) → combine c (product A B) ≡ combine (combine c A) B
combine_product c A B = combine_map (λ a. combine a B) (combine_zero B) (λ a b. combine_xor a b B) c A

pub product_assoc : (A B C : List ℕ) → product (product A B) C ≡ product A (product B C)
product_assoc [] B C = refl
product_assoc (a ∷ A) B C = ap₂ (λ (x : ℕ) (l : List ℕ). x ∷ l) (sym (combine_product a B C)) (product_assoc A B C)

pub product_row : (A B : List ℕ) (i : ℕ) → row (product A B) i ≡ combine (row A i) B
product_row A B = map_row (λ a. combine a B) (combine_zero B) A

-- the identity on either side changes nothing
pub identity_product : (n : ℕ) (B : List ℕ) → length B ≡ n → product (identity n) B ≡ B
identity_product n B e =
    is_tabulate (product (identity n) B) n (row B) (length-map (identity n) (λ a. combine a B) ∙ tabulate_length n (λ i. 2 ^ i))
    (λ i l. product_row (identity n) B i ∙ ap (λ (x : ℕ). combine x B) (tabulate_row n (λ i. 2 ^ i) i l) ∙ combine_pow i B)
    ∙ (rw e at (tabulate_rows B))

pub product_identity : (n : ℕ) (A : List ℕ) → ((i : ℕ) → row A i < 2 ^ n) → product A (identity n) ≡ A
product_identity n A h =
    ext_get_or 0 (product A (identity n)) A (length-map A (λ a. combine a (identity n)))
    (λ i l. product_row A (identity n) i ∙ combine_identity (row A i) n ∙ mod-eq_of_lt (h i))
