-- Words of a kind in bytes: how many, how large, and that they are read back as they were written.
use mathlib.Core.Logic.{◌↔◌}
use mathlib.Core.Path.{◌≡◌, refl, sym, ap, ap₂, ◌∙◌, subst}
use mathlib.Core.Bool.{Bool, true, false, not, cond}
use mathlib.Core.List.{List, [], ◌∷◌, ◌++◌, append_assoc}
use Prim.Native.Nat.{ℕ, zero, suc, ◌+◌, ◌*◌, ◌/◌, ◌%◌, ◌^◌, ◌<◌, ◌≤◌}
use native.Mathlib.Decide.{dec_lt}
use native.Mathlib.Nat.{lt_of_lt_of_le, div-eq_of_lt, suc-ne-zero}
use native.Mathlib.Omega.{arith}
use lib.Dec.{lit<, eqb}
use lib.Pow.{pow_mono}
use borrow.Author.Tests.{eq-eqb, ne_eqb}
use lib.ListN.{length, take, drop, get_or, length-append, get_or-eq_default}
use lib.Seq.{take-add, drop-drop}
use Rattle.words.specs.Words.{Fit}
use Rattle.wire.specs.Bytes.{Bytes, num, bytes_of}
use Rattle.wire.specs.Kinds.{reversed, order, words_at, bytes_of_words}
use Rattle.wire.proofs.Bytes.{num_lt, length_bytes, bytes_num, num_at}
use Rattle.wire.proofs.Reversal.{past_reversed, reversed_lt, reversed_twice}

pub order_lt : (kind x : ℕ) → x < 2 ^ 64 → order kind x < 2 ^ 64
unfolding order
order_lt kind x h = go (eqb kind 2)
  where
    go : (t : Bool) → cond t (reversed 64 x) x < 2 ^ 64
    go true = reversed_lt 64 x
    go false = h

pub order_twice : (kind x : ℕ) → x < 2 ^ 64 → order kind (order kind x) ≡ x
unfolding order
order_twice kind x h = go (eqb kind 2)
  where
    go : (t : Bool) → cond t (reversed 64 (cond t (reversed 64 x) x)) (cond t (reversed 64 x) x) ≡ x
    go true = reversed_twice 64 x h
    go false = refl

pub length_words : (kind p n : ℕ) (b : List ℕ) → length (words_at kind p n b) ≡ n
unfolding words_at
length_words kind p zero b = refl
length_words kind p (suc n) b = ap suc (length_words kind (p + 8) n b)

pub get_or_words : (kind p n : ℕ) (b : List ℕ) (j : ℕ) → j < n → get_or (words_at kind p n b) j 0 ≡ order kind (num 8 (p + 8 * j) b)
unfolding words_at
get_or_words kind p zero b j h = absurd (omega arith)
get_or_words kind p (suc n) b zero h =
    let z : p ≡ p + 8 * 0 = omega arith in
    ap (λ (q : ℕ). order kind (num 8 q b)) z
get_or_words kind p (suc n) b (suc j) h =
    let z : p + 8 + 8 * j ≡ p + 8 * suc j = omega arith in
    get_or_words kind (p + 8) n b j (omega arith) ∙ ap (λ (q : ℕ). order kind (num 8 q b)) z

pub words_fit : (kind p n : ℕ) (b : List ℕ) → Bytes b → (j : ℕ) → get_or (words_at kind p n b) j 0 < 2 ^ 64
words_fit kind p n b f j = go (dec_lt j n)
  where
    go : Dec (j < n) → get_or (words_at kind p n b) j 0 < 2 ^ 64
    go (yes l) = subst (λ (x : ℕ). x < 2 ^ 64) (sym (get_or_words kind p n b j l)) (order_lt kind (num 8 (p + 8 * j) b) (num_lt 8 (p + 8 * j) b f))
    go (no l) = subst (λ (x : ℕ). x < 2 ^ 64) (sym (get_or-eq_default (words_at kind p n b) 0 {n = j} (omega (arith, length_words kind p n b)))) (lit< tt)

pub length_words_bytes : (kind : ℕ) (ws : List ℕ) → length (bytes_of_words kind ws) ≡ 8 * length ws
unfolding bytes_of_words
length_words_bytes kind [] = refl
length_words_bytes kind (x ∷ ws) =
    length-append (bytes_of 8 (order kind x)) (bytes_of_words kind ws) ∙ ap₂ ◌+◌ (length_bytes 8 (order kind x)) (length_words_bytes kind ws) ∙ omega arith

pub bytes_words : (kind p n : ℕ) (b : List ℕ) → Bytes b → p + 8 * n ≤ length b → bytes_of_words kind (words_at kind p n b) ≡ take (8 * n) (drop p b)
unfolding bytes_of_words words_at
bytes_words kind p zero b f h = refl
bytes_words kind p (suc n) b f h =
    let e : 8 + 8 * n ≡ 8 * suc n = omega arith in
    ap₂ (λ (x y : List ℕ). x ++ y)
    (ap (bytes_of 8) (order_twice kind (num 8 p b) (num_lt 8 p b f)) ∙ bytes_num 8 p b f (omega arith))
    (bytes_words kind (p + 8) n b f (omega arith) ∙ ap (take (8 * n)) (sym (drop-drop 8 p b)))
    ∙ sym (take-add 8 (8 * n) (drop p b)) ∙ ap (λ (k : ℕ). take k (drop p b)) e

pub words_at_lem : (kind q : ℕ) (ws pre rest : List ℕ) → Fit ws → length pre ≡ q → words_at kind q (length ws) (pre ++ (bytes_of_words kind ws ++ rest)) ≡ ws
unfolding bytes_of_words words_at
words_at_lem kind q [] pre rest f e = refl
words_at_lem kind q (x ∷ ws) pre rest f e =
    let X : List ℕ = bytes_of 8 (order kind x) in
    let R : List ℕ = bytes_of_words kind ws ++ rest in
    let r : pre ++ ((X ++ bytes_of_words kind ws) ++ rest) ≡ pre ++ (X ++ R) = ap (λ (l : List ℕ). pre ++ l) (append_assoc X (bytes_of_words kind ws) rest) in
    let l : length (pre ++ X) ≡ q + 8 = length-append pre X ∙ ap₂ ◌+◌ e (length_bytes 8 (order kind x)) in
    ap₂ (λ (a : ℕ) (z : List ℕ). a ∷ z)
    (ap (λ (l : List ℕ). order kind (num 8 q l)) r ∙ ap (order kind) (num_at 8 q (order kind x) pre R e (order_lt kind x (f 0))) ∙ order_twice kind x (f 0))
    (ap (words_at kind (q + 8) (length ws)) (r ∙ sym (append_assoc pre X R)) ∙ words_at_lem kind (q + 8) ws (pre ++ X) rest (λ i. f (suc i)) l)

-- ---- a one past the first s columns of a word

pub order_two : (kind x : ℕ) → kind ≡ 2 → order kind x ≡ reversed 64 x
unfolding order
order_two kind x e = ap (λ (t : Bool). cond t (reversed 64 x) x) (eq-eqb kind 2 e)

pub order_one : (kind x : ℕ) → (kind ≡ 2 → ⊥) → order kind x ≡ x
unfolding order
order_one kind x ne = ap (λ (t : Bool). cond t (reversed 64 x) x) (ne_eqb kind 2 ne)

both_zero : (a b : ℕ) → (a ≡ 0) ↔ (b ≡ 0) → eqb a 0 ≡ eqb b 0
both_zero zero b e = sym (eq-eqb b 0 (e.0 refl))
both_zero (suc a) b e = ne_eqb (suc a) 0 (suc-ne-zero a) ∙ sym (ne_eqb b 0 (λ z. suc-ne-zero a (e.1 z)))

module _ (kind x s : ℕ) where
  pub past_none : x < 2 ^ 64 → 64 ≤ s → false ≡ not (eqb (order kind x / 2 ^ s) 0)
  past_none h l = sym (ap not (eq-eqb (order kind x / 2 ^ s) 0 (div-eq_of_lt (lt_of_lt_of_le (order_lt kind x h) (pow_mono {i = 64} {j = s} l)))))

  pub past_two : kind ≡ 2 → s < 64 → not (eqb (x * 2 ^ s % 2 ^ 64) 0) ≡ not (eqb (order kind x / 2 ^ s) 0)
  past_two e h = ap not (both_zero (x * 2 ^ s % 2 ^ 64) (reversed 64 x / 2 ^ s) (past_reversed x s h)) ∙ sym (ap (λ (y : ℕ). not (eqb (y / 2 ^ s) 0)) (order_two kind x e))

  pub past_one : (kind ≡ 2 → ⊥) → not (eqb (x / 2 ^ s) 0) ≡ not (eqb (order kind x / 2 ^ s) 0)
  past_one ne = sym (ap (λ (y : ℕ). not (eqb (y / 2 ^ s) 0)) (order_one kind x ne))
