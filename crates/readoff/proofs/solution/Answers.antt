-- No pivot in the payload, and the blocks are told.
use mathlib.Core.Path.{◌≡◌, sym, subst}
use Prim.Native.Nat.{◌+◌, ◌-◌}
use native.Mathlib.Omega.{arith}
use borrow.Author.Rules.{rules}
use lib.Dec.{T}
use lib.ListN.{length, take}
use lib.Seq.{length-take-le}
use Rattle.words.proofs.Value.{fits_fit}
use Rattle.readoff.proofs.Saying.{shown_cut}
use Rattle.readoff.proofs.solution.Goals as goal

pub returns : goal.returns
returns c =
    let g = c.args in
    let m = c.in_ok-m in
    let b = c.blocks-2 in
    let v = c.per_row-v in
    let p : g.n + (g.columns - g.n) ≡ g.columns = omega arith in
    let cut : length (take v.result g.unknown.now) ≡ v.result = length-take-le v.result g.unknown.now (search rules) in
    let marks : length g.marks.now ≡ g.n = search rules in
    let told = rw cut at b.ensures.0 in
    let shows = shown_cut g.unknown.now (fits_fit g.unknown.now c.type_inv.unknown) v.result (search rules) (length g.marks.now) m.m b.new.image b.new.marks told in
    rw (p, ← m.ensures.1) (
      record { packets = record { matrix = m.ensures.0; blocks = search rules }; filled = search rules; fitting = search rules; marked = search rules },
      λ t. subst T (sym c.if-has_pivot.ensures) t,
      rw (marks, v.ensures) at shows,
      b.ensures.1,
    )
