-- A window's columns of a row, as one number: where its digits come from, and what clearing the row does to it.
use mathlib.Core.Path.{◌≡◌, sym, ap, ◌∙◌}
use Prim.Native.Nat.{ℕ, ◌+◌, ◌/◌, ◌%◌, ◌^◌, ◌<◌}
use native.Mathlib.Nat.{mod-lt, zero-div, zero-mod}
use lib.Bits.{xor_shr, xor_mod}
use lib.Pow.{pow_pos}
use Rattle.gf2.specs.Rows.{bit, ◌⊕◌, pick}
use Rattle.gf2.proofs.Bits.{bit_mod, bit_shr}
use Rattle.gf2.proofs.Space.{pick_map}
use Rattle.words.specs.Words.{window_bits}

pub window_lt : (c k v : ℕ) → window_bits c k v < 2 ^ k
window_lt c k v = mod-lt (v / 2 ^ c) (pow_pos k)

pub bit_window : (c k x v : ℕ) → x < k → bit x (window_bits c k v) ≡ bit (c + x) v
bit_window c k x v h = bit_mod x k (v / 2 ^ c) h ∙ bit_shr x c v

window_zero : (c k : ℕ) → window_bits c k 0 ≡ 0
window_zero c k = rw (zero-div (2 ^ c), zero-mod (2 ^ k))

window_xor : (c k a b : ℕ) → window_bits c k (a ⊕ b) ≡ window_bits c k a ⊕ window_bits c k b
window_xor c k a b = ap (λ (v : ℕ). v % 2 ^ k) (xor_shr a b c) ∙ xor_mod (a / 2 ^ c) (b / 2 ^ c) k

-- v cleared by w in column c + x of the window: the numbers follow
pub window_clear : (c k x v w : ℕ) → x < k → window_bits c k (v ⊕ pick (bit (c + x) v) w) ≡ window_bits c k v ⊕ pick (bit x (window_bits c k v)) (window_bits c k w)
window_clear c k x v w h =
    window_xor c k v (pick (bit (c + x) v) w)
    ∙ ap (λ (y : ℕ). window_bits c k v ⊕ y) (sym (pick_map (window_bits c k) (window_zero c k) (bit (c + x) v) w) ∙ ap (λ (b : ℕ). pick b (window_bits c k w)) (sym (bit_window c k x v h)))
