-- Laws of the loops over the rows' bytes: filling, their union, finding, sweeping and gathering.
use mathlib.Core.Path.{◌≡◌, refl, sym, ap, ◌∙◌, subst}
use mathlib.Core.List.{List}
use mathlib.Core.Logic.{◌≢◌, ◌⊎◌, inl, inr}
use Prim.Native.Nat.{ℕ, ◌+◌, ◌*◌, ◌/◌, ◌%◌, ◌^◌, ◌<◌, ◌≤◌}
use native.Mathlib.Nat.{one-mul, zero-mul}
use native.Mathlib.Decide.{ℕ_discrete}
use native.Mathlib.Omega.{arith}
use lib.Arith.{digits_lt}
use lib.Bits.{bit_and, bit_or, or_shifted_r, xor_zero_r}
use lib.ListN.{length, get_or, set, length-set}
use lib.Pow.{pow_pos, pow-add, low, high, shl_exact}
use lib.Seq.{get_or-set_same, get_or-set_other}
use Rattle.std.proofs.lemmas.Nat.Bits.{bit_at_or, and_pow}
use Rattle.gf2.specs.Rows.{bit, ◌⊕◌, pick}
use Rattle.gf2.proofs.Bits.{bit_lt, bit_cases, bit_mod}
use Rattle.engine.specs.Stage.{Union, Gathered}

-- ---- a loop that goes over the places from `from` on and has come to place i: the list was o and is p, and P holds of each new entry at its place

pub record Made (P : ℕ → ℕ → Type 0) (from i : ℕ) (o p : List ℕ) : Type 0 where
  pub done : (j : ℕ) → from ≤ j → j < i → P j (get_or p j 0)
  pub rest : (j : ℕ) → (j < from) ⊎ (i ≤ j) → get_or p j 0 ≡ get_or o j 0
  pub size : length p ≡ length o

pub made_start : (P : ℕ → ℕ → Type 0) (from : ℕ) (o : List ℕ) → Made P from from o o
made_start P from o = record { done = λ j l h. absurd (omega arith); rest = λ j h. refl; size = refl }

pub made_more : (P : ℕ → ℕ → Type 0) (from i : ℕ) (o p : List ℕ) (v : ℕ) → from ≤ i → i < length o → P i v → Made P from i o p → Made P from (i + 1) o (set p i v)
made_more P from i o p v l h e F = record { done = λ j a b. done j a b (ℕ_discrete j i); rest = rest; size = length-set p i v ∙ F.size }
  where
    done : (j : ℕ) → from ≤ j → j < i + 1 → Dec (j ≡ i) → P j (get_or (set p i v) j 0)
    done j a b (yes q) = rw (q, get_or-set_same p i v 0 (subst (λ (n : ℕ). i < n) (sym F.size) h)) e
    done j a b (no n) = rw (get_or-set_other p i j v 0 n) (F.done j a (omega arith))

    rest : (j : ℕ) → (j < from) ⊎ (i + 1 ≤ j) → get_or (set p i v) j 0 ≡ get_or o j 0
    rest j (inl a) = get_or-set_other p i j v 0 (omega arith) ∙ F.rest j (inl a)
    rest j (inr a) = get_or-set_other p i j v 0 (omega arith) ∙ F.rest j (inr (omega arith))

-- ---- the union

pub none_of : (y a b : ℕ) → bit y (bit_or a b) ≡ 0 → (bit y a ≡ 0) × (bit y b ≡ 0)
none_of y a b e = let m = bit_at_or a b y in (omega arith, omega arith)

pub union_start : (from : ℕ) (o : List ℕ) → Union from from o 0
union_start from o i y h l = absurd (omega arith)

-- one number more
pub union_more : (i from : ℕ) (o : List ℕ) (u b : ℕ) → i < length o → Union i from o u → Union (i + 1) from (set o i b) (bit_or u b)
union_more i from o u b h U j y l k e = go (ℕ_discrete j i)
  where
    go : Dec (j ≡ i) → bit y (get_or (set o i b) j 0) ≡ 0
    go (yes f) = rw (f, get_or-set_same o i b 0 h) (none_of y u b e).1
    go (no n) = rw (get_or-set_other o i j b 0 n) (U j y l (omega arith) (none_of y u b e).0)

-- ---- finding: a row without a one in column x is passed

pub found_none : (o : List ℕ) (x from i : ℕ) → ((j : ℕ) → from ≤ j → j < i → bit x (get_or o j 0) ≡ 0) → bit x (get_or o i 0) ≢ 1 → (j : ℕ) → from ≤ j → j < i + 1 → bit x (get_or o j 0) ≡ 0
found_none o x from i h n j l k = go (ℕ_discrete j i)
  where
    zero_of : (bit x (get_or o i 0) ≡ 0) ⊎ (bit x (get_or o i 0) ≡ 1) → bit x (get_or o i 0) ≡ 0
    zero_of (inl f) = f
    zero_of (inr f) = absurd (n f)

    go : Dec (j ≡ i) → bit x (get_or o j 0) ≡ 0
    go (yes e) = rw e (zero_of (bit_cases x (get_or o i 0)))
    go (no m) = h j l (omega arith)

-- ---- sweeping: a number without a one under the mask stays, and the others get b added

-- a byte with one bit
pub one_bit : (x : ℕ) → x < 8 → 1 * 2 ^ x % 256 ≡ 2 ^ x
one_bit x h = shl_exact {a = 1} 1 x 8 (omega arith) (omega arith) ∙ one-mul (2 ^ x)

masked : (x v : ℕ) → x < 8 → bit_and v (1 * 2 ^ x % 256) ≡ bit x v * 2 ^ x
masked x v h = ap (bit_and v) (one_bit x h) ∙ and_pow v x

-- under the mask a byte shows its bit x
pub is_clear : (x v : ℕ) → x < 8 → bit_and v (1 * 2 ^ x % 256) ≡ 0 → bit x v ≡ 0
is_clear x v h z = go (bit_cases x v)
  where
    go : (bit x v ≡ 0) ⊎ (bit x v ≡ 1) → bit x v ≡ 0
    go (inl f) = f
    go (inr f) = absurd (omega (arith, pow_pos x, sym z ∙ masked x v h ∙ ap (λ (d : ℕ). d * 2 ^ x) f))

pub is_set : (x v : ℕ) → x < 8 → bit_and v (1 * 2 ^ x % 256) ≢ 0 → bit x v ≡ 1
is_set x v h z = go (bit_cases x v)
  where
    go : (bit x v ≡ 0) ⊎ (bit x v ≡ 1) → bit x v ≡ 1
    go (inl f) = absurd (z (masked x v h ∙ ap (λ (d : ℕ). d * 2 ^ x) f ∙ zero-mul (2 ^ x)))
    go (inr f) = f

pub kept : (x b v : ℕ) → x < 8 → bit_and v (1 * 2 ^ x % 256) ≡ 0 → v ≡ v ⊕ pick (bit x v) b
unfolding pick
kept x b v h z = rw (is_clear x v h z) (sym (xor_zero_r v))

pub added : (x b v : ℕ) → x < 8 → bit_and v (1 * 2 ^ x % 256) ≢ 0 → v ⊕ b ≡ v ⊕ pick (bit x v) b
unfolding pick
added x b v h z = rw (is_set x v h z) refl

-- ---- gathering: digit d above the b digits of y

module _ (b y d : ℕ) (hy : y < 2 ^ b) (hd : d < 2) where
  more_lt : d * 2 ^ b + y < 2 ^ (b + 1)
  more_lt =
      let e : b + 1 ≡ 1 + b = omega arith in
      rw (e, pow-add 2 1 b) (digits_lt hd hy)

  more_old : (j : ℕ) → j < b → bit j (d * 2 ^ b + y) ≡ bit j y
  more_old j h = sym (bit_mod j b (d * 2 ^ b + y) h) ∙ ap (bit j) (low d b hy)

  more_new : bit b (d * 2 ^ b + y) ≡ d
  more_new = ap (λ (v : ℕ). v % 2) (high d b hy) ∙ digit d hd
    where
      digit : (d : ℕ) → d < 2 → d % 2 ≡ d
      digit d h = omega arith

-- no pivot yet
pub gather_start : (c : ℕ) (pivots : List ℕ) (x : ℕ) → Gathered c 0 pivots x 0
gather_start c pivots x = record { small = pow_pos 0; named = λ b l q e. absurd (omega arith) }

-- the digit of one pivot more
pub gather_more : (c b : ℕ) (pivots : List ℕ) (x y q : ℕ) → b < 8 → c + q ≡ get_or pivots b 0 → Gathered c b pivots x y
    → Gathered c (b + 1) pivots x (bit_or y (x / 2 ^ q % 2 * 2 ^ b % 256))
gather_more c b pivots x y q h e G =
    rw (sum) (record {
      small = more_lt b y (bit q x) G.small (bit_lt q x);
      named = λ j l p f. named j l p f (ℕ_discrete j b);
    })
  where
    sum : bit_or y (x / 2 ^ q % 2 * 2 ^ b % 256) ≡ bit q x * 2 ^ b + y
    sum = ap (bit_or y) (shl_exact {a = bit q x} 1 b 8 (bit_lt q x) (omega arith)) ∙ or_shifted_r (bit q x) b y G.small

    named : (j : ℕ) → j < b + 1 → (p : ℕ) → c + p ≡ get_or pivots j 0 → Dec (j ≡ b) → bit j (bit q x * 2 ^ b + y) ≡ bit p x
    named j l p f (yes g) =
        let same : q ≡ p = omega (arith, e ∙ ap (λ (k : ℕ). get_or pivots k 0) (sym g) ∙ sym f) in
        ap (λ (k : ℕ). bit k (bit q x * 2 ^ b + y)) g ∙ more_new b y (bit q x) G.small (bit_lt q x) ∙ ap (λ (k : ℕ). bit k x) same
    named j l p f (no n) = more_old b y (bit q x) G.small (bit_lt q x) j (omega arith) ∙ G.named j (omega arith) p f
