-- Whether all entries are narrow is whether those that are left are, as long as each one met is.
use mathlib.Core.Path.{◌≡◌}
use Rattle.pack.specs.Writing.{given, all_narrow}
use Rattle.pack.specs.Steps.{first_left, second_left, third_left}
use Rattle.pack.proofs.Turns.{Going}
use Rattle.pack.proofs.entries.Entries.are_narrow.Given as goal

abbrev pub invariant-loop-rows : goal.invariant-loop-rows
invariant-loop-rows l = record {
  narrow : all_narrow (given l.self.kinds.now l.self.rows.now l.self.columns.now l.self.words.now)
      ≡ all_narrow (given (first_left l.rows-iterator) (second_left l.rows-iterator) (third_left l.rows-iterator) l.left);
  going : Going (first_left l.rows-iterator) (second_left l.rows-iterator) (third_left l.rows-iterator) l.left;
}
