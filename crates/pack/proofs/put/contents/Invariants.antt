-- A turn puts the ten bytes of the next entry: what is then to be put stays the same. Room is left for ten bytes an entry, and offsets stay within the output.
use mathlib.Core.Path.{◌≡◌}
use Prim.Native.Nat.{◌+◌, ◌*◌, ◌≤◌}
use lib.ListN.{length}
use Rattle.bundle.specs.Bundle.{head_bytes}
use Rattle.pack.specs.Encode.{contents_of}
use Rattle.pack.specs.Writing.{given, all_words}
use Rattle.pack.specs.Steps.{splice, first_left, second_left, third_left}
use Rattle.pack.proofs.put.contents.Given as goal

abbrev pub invariant-loop-kind : goal.invariant-loop-kind
invariant-loop-kind l = record {
  to_put : splice 2 (contents_of (head_bytes (length l.entries.kinds.now)) (given l.entries.kinds.now l.entries.rows.now l.entries.columns.now l.entries.words.now)) l.initial.out
      ≡ splice l.at (contents_of l.offset (given (first_left l.kind-iterator) (second_left l.kind-iterator) (third_left l.kind-iterator) l.entries.words.now)) l.out;
  whole : length l.out ≡ length l.initial.out;
  heads : l.at + 10 * length (first_left l.kind-iterator) ≤ length l.out;
  bodies : l.offset + 8 * all_words (second_left l.kind-iterator) (third_left l.kind-iterator) ≤ length l.out;
}
