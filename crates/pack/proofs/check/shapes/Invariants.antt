-- The checks of all entries are those of the entries that are left, as long as none refuses.
use mathlib.Core.Path.{◌≡◌}
use Rattle.bundle.specs.Bundle.{kind_rule}
use Rattle.pack.specs.Writing.{shapes_checks}
use Rattle.pack.specs.Steps.{first_left, second_left, third_left}
use Rattle.pack.proofs.check.shapes.Given as goal

abbrev pub invariant-loop-kind : goal.invariant-loop-kind
invariant-loop-kind l =
    shapes_checks (kind_rule l.two) l.kinds l.rows l.columns
    ≡ shapes_checks (kind_rule l.two) (first_left l.kind-iterator) (second_left l.kind-iterator) (third_left l.kind-iterator)
