-- The row's first one and the ones behind it tell what to store.
use mathlib.Core.Path.{◌≡◌, refl, ◌∙◌}
use Prim.Native.Nat.{ℕ, ◌+◌, ◌-◌, ◌*◌}
use native.Mathlib.Omega.{arith}
use borrow.Author.Rules.{rules}
use lib.ListN.{length, set}
use Rattle.words.specs.Words.{value}
use Rattle.words.proofs.Value.{fits_fit}
use Rattle.words.proofs.First.{put_first}
use Rattle.readoff.proofs.Laid.{stored_words}
use Rattle.readoff.proofs.Telling.{tell_none, tell_nothing, tell_unknown, tell_known}
use Rattle.readoff.proofs.tell.Goals as goal

pub returns-in_default : goal.returns-in_default
returns-in_default c =
    let g = c.args in
    let r = c.row-row.result in
    rw (← c.row-row.ensures)
    (λ R s. tell_none (value g.unknown.now) (length g.marks.now) (length g.unknown.now) r R g.image.now g.marks.now s c.in_default.ensures)

pub returns-then-n-j : goal.returns-then-n-j
returns-then-n-j c =
    let g = c.args in
    let r = c.row-row.result in
    rw (← c.row-row.ensures)
    (λ R s. tell_nothing (value g.unknown.now) (length g.marks.now) (length g.unknown.now) r R g.image.now g.marks.now s
    c.in-Some.j c.in-Some.ensures c.if-n-j.true)

pub returns-then-has_one : goal.returns-then-has_one
returns-then-has_one c =
    let g = c.args in
    let r = c.row-row.result in
    let v = length g.unknown.now in
    let u = c.set_unknown in
    let j = c.in-Some.j in
    rw (← c.row-row.ensures)
    (λ R s. tell_unknown (value g.unknown.now) (length g.marks.now) v r R g.image.now g.marks.now s j c.in-Some.ensures (search rules) u.new.image
    u.new.marks (search rules) c.if-has_one.ensures (u.ensures.0 ∙ stored_words (j * v) g.image.now g.unknown.now (fits_fit g.unknown.now c.type_inv.unknown)) u.ensures.1)

pub returns : goal.returns
returns c =
    let g = c.args in
    let r = c.row-row.result in
    let v = length g.unknown.now in
    let j : ℕ = c.in-Some.j in
    let k : j * v + v - j * v ≡ v = omega arith in
    let e = put_first (j * v) (j * v + v - j * v) v _ _ g.image.now c.write_from.new.to c.write_from.ensures (search rules) k in
    rw (← c.row-row.ensures)
    (λ R s. tell_known (value g.unknown.now) (length g.marks.now) v r R g.image.now g.marks.now s j c.in-Some.ensures (search rules) _
    (set g.marks.now j 1) (search rules) c.if-has_one.ensures e refl)
