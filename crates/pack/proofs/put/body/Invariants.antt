-- A turn puts the next word: what is then to be put stays the same.
use mathlib.Core.Path.{◌≡◌}
use Prim.Native.Nat.{◌+◌, ◌*◌}
use lib.ListN.{length, drop}
use Rattle.wire.specs.Kinds.{bytes_of_words}
use Rattle.pack.specs.Steps.{splice}
use Rattle.pack.proofs.put.body.Given as goal

abbrev pub invariant-loop-j : goal.invariant-loop-j
invariant-loop-j l = record {
  to_put : splice l.at (bytes_of_words l.kind l.words) l.initial.out ≡ splice (l.at + 8 * l.j) (bytes_of_words l.kind (drop l.j l.words)) l.out;
  whole : length l.out ≡ length l.initial.out;
}
