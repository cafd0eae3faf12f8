-- Each row is tested: units_begin.
use mathlib.Core.Path.{◌≡◌, subst}
use mathlib.Core.List.{List}
use Prim.Native.Nat.{ℕ, ◌%◌, ◌^◌}
use borrow.Author.Rules.{rules}
use borrow.Author.Tests.{tests}
use lib.ListN.{length}
use Rattle.gf2.specs.Rows.{row}
use Rattle.words.proofs.Ranges.{EachBelow, each_below}
use Rattle.readoff.proofs.Sides.{units_begin}
use Rattle.readoff.proofs.begins_with_identity.Goals as goal

pub returns : goal.returns
returns c =
    let R : List ℕ = c.args.m.now in
    let Unit_row : ℕ → Type 0 = λ i. row R i % 2 ^ length R ≡ 2 ^ i in
    units_begin R c.all.result (subst (λ (n : ℕ). EachBelow n c.all.result Unit_row) c.len-n.ensures
    (each_below c.len-n.result c.all.result Unit_row c.all.ensures.ran (λ x q k. search (rules, tests)) (λ x q k. search (rules, tests))))
