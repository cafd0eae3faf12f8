-- Word k of a number is its columns from 64 k on.
use mathlib.Core.Path.{◌≡◌}
use Prim.Native.Nat.{ℕ, ◌+◌, ◌*◌, ◌<◌}
use lib.ListN.{get_or}
use Rattle.words.specs.Words.{window_bits}
use Rattle.readoff.proofs.row.Row.write_from.Given as goal

abbrev pub invariant-loop-l : goal.invariant-loop-l
invariant-loop-l l = (k : ℕ) → k < l.l → get_or l.to k 0 ≡ window_bits (l.c + 64 * k) 64 l.self
