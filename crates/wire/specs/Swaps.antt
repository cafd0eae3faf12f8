-- Neighbours of s bits change places: the steps by which a word is reversed. No public promise cites any of it.
use Rattle.std.specs.Prelude.{ℕ, zero, suc, ◌+◌, ◌-◌, ◌*◌, ◌/◌, ◌%◌, ◌^◌}

-- n pairs of neighbours of s bits, each pair in the other order
unfoldable pub swap_pairs : ℕ → ℕ → ℕ → ℕ
swap_pairs zero s x = 0
swap_pairs (suc n) s x = swap_pairs n s (x / 2 ^ (s + s)) * 2 ^ (s + s) + (x % 2 ^ s * 2 ^ s + x / 2 ^ s % 2 ^ s)

-- ones in the lower half of each of n pairs
unfoldable pub mask_of : ℕ → ℕ → ℕ
mask_of zero s = 0
mask_of (suc n) s = mask_of n s * 2 ^ (s + s) + (2 ^ s - 1)
