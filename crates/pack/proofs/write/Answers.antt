-- Past the checks the lists are entries, and there is room for their bundle.
use mathlib.Core.Path.{sym, ◌∙◌}
use lib.ListN.{length}
use Rattle.bundle.specs.Bundle.{both_kinds}
use Rattle.pack.specs.Writing.{Writable}
use Rattle.pack.proofs.Passing.{writable, checked}
use Rattle.pack.proofs.write.Goals as goal

pub invariant_of-entries : goal.invariant_of-entries
invariant_of-entries c =
    let g = c.args in
    let v : Writable both_kinds g.kinds.now g.rows.now g.columns.now g.words.now (length g.out.now) = writable _ _ _ _ _ _ (sym c.all.ensures ∙ c.in_ok-all.was) in
    record { checked = checked _ _ _ _ _ _ v (λ j. (c.type_inv.words j).fits) }

pub bundle-requires : goal.bundle-requires
bundle-requires c = (writable _ _ _ _ _ _ (sym c.all.ensures ∙ c.in_ok-all.was)).fits
