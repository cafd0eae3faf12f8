-- Row after row: adjoined_more is a turn of the loop, and adjoined_all its end.
use mathlib.Core.Path.{◌≡◌, ap, ◌∙◌}
use Prim.Native.Nat.{ℕ, ◌+◌, ◌-◌, ◌*◌, ◌^◌}
use native.Mathlib.Omega.{arith}
use borrow.Author.Rules.{rules}
use lib.ListN.{take, drop}
use Rattle.gf2.specs.Rows.{◌⊕◌}
use Rattle.words.specs.Words.{value, first_words}
use Rattle.words.proofs.First.{put_first}
use Rattle.words.proofs.Value.{fits_fit}
use Rattle.beside.proofs.Rows.{adjoined_more, adjoined_all}
use Rattle.beside.proofs.adjoin.Goals as goal

pub loop-i-preserved : goal.loop-i-preserved
loop-i-preserved c =
    let g = c.args in
    let v = c.per_row-v in
    let w = c.per_row-w in
    let l = c.loop-i in
    let m = g.m.now in
    let here : l.i * v.result + v.result - l.i * v.result ≡ v.result = omega arith in
    let there : l.i * w.result + w.result - l.i * w.result ≡ w.result = omega arith in
    let sum = ap (λ (k : ℕ). value (take k (drop (l.i * w.result) m)) ⊕ 2 ^ (g.columns + l.i)) there in
    adjoined_more v.result w.result g.rows g.columns m g.room.now l.i l.room (search rules) (search rules) l.invariant _
    (put_first (l.i * v.result) (l.i * v.result + v.result - l.i * v.result) v.result _ _ l.room c.put.new.to (c.put.ensures ∙ ap (first_words _) sum) (search rules) here)
    v.ensures w.ensures (fits_fit m c.type_inv.m) (search rules)

pub returns : goal.returns
returns c =
    let g = c.args in
    let v = c.per_row-v in
    let w = c.per_row-w in
    let l = c.loop-i in
    rw (← v.ensures, ← w.ensures) (adjoined_all v.result w.result g.rows g.columns g.m.now g.room.now l.i l.room (search rules) l.invariant, l.invariant.rest)
