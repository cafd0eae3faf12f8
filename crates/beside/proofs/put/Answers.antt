-- Word l of a sum is the sum of the words l: window_sum.
use mathlib.Core.Path.{◌≡◌, ap₂, ◌∙◌}
use mathlib.Core.Logic.{◌≢◌}
use Prim.Native.Nat.{ℕ, ◌*◌, ◌^◌, ◌<◌}
use native.Mathlib.Omega.{arith}
use borrow.Author.Count.{below_more}
use borrow.Author.Rules.{rules}
use lib.ListN.{length, get_or}
use lib.Seq.{get_or-set_same, get_or-set_other}
use Rattle.gf2.specs.Rows.{◌⊕◌}
use Rattle.words.specs.Words.{value}
use Rattle.words.proofs.First.{first_is, value_word, window_sum}
use Rattle.words.proofs.Value.{fits_fit}
use Rattle.beside.proofs.put.Goals as goal

pub loop-l-preserved : goal.loop-l-preserved
loop-l-preserved c =
    let g = c.args in
    let l : ℕ = c.loop-l.l in
    let old : c.unwrap_or.result ≡ get_or g.row.now l 0 = search rules in
    below_more _ _
    (λ k h. let ne : k ≢ l = omega arith in rw get_or-set_other (c.loop-l.invariant k h))
    (let lt : l < length c.loop-l.to = omega arith in
    rw get_or-set_same (ap₂ (λ (x y : ℕ). x ⊕ y) (old ∙ value_word g.row.now l (fits_fit g.row.now c.type_inv.row)) c.unit_word.ensures
    ∙ window_sum (64 * l) (value g.row.now) (2 ^ g.c)))

pub returns : goal.returns
returns c =
    let g = c.args in
    first_is (length g.to.now) (value g.row.now ⊕ 2 ^ g.c) c.loop-l.to (search rules) (λ l h. c.loop-l.invariant l (omega arith))
