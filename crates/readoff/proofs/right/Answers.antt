-- Each row that was written is the right half of its row: right_turn.
use mathlib.Core.Path.{◌≡◌, refl, ap, subst, ◌∙◌}
use mathlib.Core.List.{List}
use Prim.Native.Nat.{ℕ, ◌+◌, ◌-◌, ◌*◌, ◌/◌, ◌^◌}
use native.Mathlib.Omega.{arith}
use borrow.Author.Rules.{rules}
use lib.ListN.{length}
use Rattle.gf2.specs.Rows.{row}
use Rattle.words.specs.Words.{first_words}
use Rattle.words.proofs.First.{put_first}
use Rattle.readoff.proofs.Laid.{Laid}
use Rattle.readoff.proofs.Sides.{right_turn, right_done}
use Rattle.readoff.proofs.right.Goals as goal

pub loop-i-preserved : goal.loop-i-preserved
loop-i-preserved c =
    let g = c.args in
    let l = c.loop-i in
    let R : List ℕ = g.m.now in
    let k : l.i * g.v + g.v - l.i * g.v ≡ g.v = omega arith in
    let n : c.row.result / 2 ^ c.len-n.result ≡ c.row.result / 2 ^ length R = ap (λ (x : ℕ). c.row.result / 2 ^ x) c.len-n.ensures in
    let e = put_first (l.i * g.v) (l.i * g.v + g.v - l.i * g.v) g.v _ _ l.res c.write_from.new.to (c.write_from.ensures ∙ ap (first_words _) n) (search rules) k in
    right_turn (length R) g.v R l.res l.i (search rules) (search rules) l.invariant _ _ c.row.ensures e

pub returns : goal.returns
returns c =
    let g = c.args in
    let R : List ℕ = g.m.now in
    let e : c.loop-i.i ≡ length R = search rules in
    right_done (length R) g.v R c.loop-i.res refl (search rules)
    (subst (λ (i : ℕ). Laid g.v i (λ j. row R j / 2 ^ length R) c.loop-i.res) e c.loop-i.invariant)
