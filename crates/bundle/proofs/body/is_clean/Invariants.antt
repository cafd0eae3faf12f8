-- A one past the last column stands in the last word of its row: the loop has looked at that word of each row passed.
use Prim.Native.Nat.{ℕ, ◌^◌, ◌<◌}
use Rattle.gf2.specs.Rows.{row}
use Rattle.bundle.specs.Bundle.{matrix_at}
use Rattle.bundle.proofs.body.is_clean.Given as goal

abbrev pub invariant-loop-i : goal.invariant-loop-i
invariant-loop-i l = (k : ℕ) → k < l.i → row (matrix_at l.kind l.at l.rows l.columns l.b) k < 2 ^ l.columns
