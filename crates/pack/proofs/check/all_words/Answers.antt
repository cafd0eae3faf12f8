-- The sum over the pairs of rows and columns.
use mathlib.Core.Path.{◌∙◌}
use Prim.Native.Nat.{ℕ}
use Rattle.std.specs.Prelude.{zip}
use Rattle.std.proofs.Common.{tests}
use Rattle.std.proofs.lemmas.Iterator.{YieldsList-from_slice, YieldsList-from_zip, YieldsList-from_map}
use Rattle.std.proofs.lemmas.Iterator.Consumers.{sum_by_from_yields_List, YieldsList-at}
use Rattle.bundle.specs.Bundle.{body_words}
use Rattle.pack.proofs.Turns.{words_sum}
use borrow.Author.Rules.{rules}
use Rattle.pack.proofs.check.all_words.Goals as goal

pub returns : goal.returns
returns c =
    let g = c.args in
    sum_by_from_yields_List (λ (p : ℕ × ℕ). body_words p.0 p.1) (zip g.rows.now g.columns.now) c.map.result _ c.sum.ensures.ran
    (YieldsList-from_map _ (λ (p : ℕ × ℕ). body_words p.0 p.1)
    (YieldsList-at c.map.ensures.source (YieldsList-from_zip (YieldsList-from_slice g.rows.now cc) (YieldsList-from_slice g.columns.now cc)))
    c.map.ensures.closure (λ x r q k. search (rules, tests)))
    ∙ words_sum g.rows.now g.columns.now
