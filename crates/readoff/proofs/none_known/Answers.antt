-- After j turns the first j blocks are unknown.
use mathlib.Core.Path.{◌∙◌}
use Prim.Native.Nat.{◌*◌}
use borrow.Author.Rules.{rules}
use lib.ListN.{length}
use Rattle.words.specs.Words.{value}
use Rattle.words.proofs.Value.{fits_fit}
use Rattle.readoff.proofs.Laid.{stored_words}
use Rattle.readoff.proofs.Saying.{unknown_block, unknown_shown}
use Rattle.readoff.proofs.none_known.Goals as goal

pub loop-j-preserved : goal.loop-j-preserved
loop-j-preserved c =
    let g = c.args in
    let v = length g.unknown.now in
    let l = c.loop-j in
    let u = c.set_unknown in
    unknown_block (value g.unknown.now) (length g.marks.now) v l.image l.marks l.j l.invariant (search rules) (search rules) (search rules)
    u.new.image u.new.marks (u.ensures.0 ∙ stored_words (l.j * v) l.image g.unknown.now (fits_fit g.unknown.now c.type_inv.unknown)) u.ensures.1

pub returns : goal.returns
returns c =
    let g = c.args in
    let l = c.loop-j in
    unknown_shown (value g.unknown.now) (length g.marks.now) (length g.unknown.now) l.image l.marks l.j l.invariant (search rules) (search rules) (search rules)
