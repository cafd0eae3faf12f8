-- What is checked before the padding is what the loops need.
use mathlib.Core.Path.{sym, ◌∙◌}
use Rattle.bundle.specs.Bundle.{kind_rule}
use Rattle.pack.proofs.Passing.{shapes_any}
use Rattle.pack.proofs.check.all.Goals as goal

pub invariant_of-entries : goal.invariant_of-entries
invariant_of-entries c =
    let g = c.args in
    record {
      checked = record {
        rows_too = c.if-rows-kinds.false;
        columns_too = c.if-columns-kinds.false;
        few = c.if-kinds-gt64.false;
        shapes = shapes_any (kind_rule g.two) g.kinds.now g.rows.now g.columns.now (sym c.shapes.ensures ∙ c.in_ok-shapes.was);
        words_fit = sym (c.if-words-all_words.false ∙ c.all_words.ensures);
        fit = λ j. (c.type_inv.words j).fits;
      };
    }
