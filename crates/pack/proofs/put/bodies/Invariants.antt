-- A turn puts the body of the next entry: what is then to be put stays the same. Room is left for the words that are.
use mathlib.Core.Path.{◌≡◌}
use Prim.Native.Nat.{◌+◌, ◌*◌, ◌≤◌}
use lib.ListN.{length}
use Rattle.bundle.specs.Bundle.{head_bytes}
use Rattle.pack.specs.Encode.{bodies_of}
use Rattle.pack.specs.Writing.{given}
use Rattle.pack.specs.Steps.{splice, first_left, second_left, third_left}
use Rattle.pack.proofs.Turns.{Going}
use Rattle.pack.proofs.put.bodies.Given as goal

abbrev pub invariant-loop-kind : goal.invariant-loop-kind
invariant-loop-kind l = record {
  to_put : splice (head_bytes (length l.entries.kinds.now)) (bodies_of (given l.entries.kinds.now l.entries.rows.now l.entries.columns.now l.entries.words.now)) l.initial.out
      ≡ splice l.at (bodies_of (given (first_left l.kind-iterator) (second_left l.kind-iterator) (third_left l.kind-iterator) l.left)) l.out;
  going : Going (first_left l.kind-iterator) (second_left l.kind-iterator) (third_left l.kind-iterator) l.left;
  whole : length l.out ≡ length l.initial.out;
  room : l.at + 8 * length l.left ≤ length l.out;
}
