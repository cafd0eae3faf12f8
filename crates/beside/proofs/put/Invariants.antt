-- Word k of a sum is the sum of the words k.
use mathlib.Core.Path.{◌≡◌}
use Prim.Native.Nat.{ℕ, ◌*◌, ◌^◌, ◌<◌}
use lib.ListN.{get_or}
use Rattle.gf2.specs.Rows.{◌⊕◌}
use Rattle.words.specs.Words.{value, window_bits}
use Rattle.beside.proofs.put.Given as goal

abbrev pub invariant-loop-l : goal.invariant-loop-l
invariant-loop-l l = (k : ℕ) → k < l.l → get_or l.to k 0 ≡ window_bits (64 * k) 64 (value l.row ⊕ 2 ^ l.c)
