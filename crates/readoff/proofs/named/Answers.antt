-- The row that is found is cut, or there is none.
use mathlib.Core.Path.{refl, sym, ap₂, ◌∙◌}
use Prim.Native.Nat.{ℕ, ◌/◌, ◌^◌}
use borrow.Author.Rules.{rules}
use Rattle.words.specs.Words.{first_words}
use Rattle.readoff.proofs.Place.{place_row, found_none, found_some}
use Rattle.readoff.proofs.named.Goals as goal

pub returns-in-None : goal.returns-in-None
returns-in-None c =
    let g = c.args in
    let m = c.in_ok-m in
    rw (← m.ensures.1) (
      (record { matrix = m.ensures.0; right = search rules; fitting = search rules }, found_none g.a g.e m.m c.in-None.ensures),
      refl,
    )

pub returns-in-Some : goal.returns-in-Some
returns-in-Some c =
    let g = c.args in
    let m = c.in_ok-m in
    let i = c.in-Some in
    let read = c.row.ensures ∙ sym (place_row g.a g.e m.m i.i i.ensures) in
    rw (← m.ensures.1) (
      (record { matrix = m.ensures.0; right = search rules; fitting = search rules }, found_some g.a g.e m.m i.i i.ensures),
      c.write_from.ensures ∙ ap₂ (λ (w x : ℕ). first_words w (x / 2 ^ g.e)) (search rules) read,
    )
