-- Rows whose last word is full have no padding; else the last word of each row tells.
use mathlib.Core.Path.{◌≡◌, sym, ◌∙◌}
use mathlib.Core.Logic.{◌↔◌}
use mathlib.Core.List.{List}
use Prim.Native.Nat.{ℕ, ◌<◌, ◌+◌, ◌-◌, ◌*◌, ◌/◌, ◌%◌, ◌^◌}
use native.Mathlib.Omega.{arith}
use borrow.Author.Tests.{tests, eq-eqb}
use borrow.Author.Rules.{rules}
use lib.ListN.{get_or}
use Rattle.gf2.specs.Rows.{row}
use Rattle.words.specs.Words.{rows_of}
use Rattle.words.proofs.Padding.{narrow_all, narrow_by}
use Rattle.words.proofs.Ranges.{each_same, each_below}
use Rattle.words.proofs.Rows.{length_rows, last_word_row, last_word_row_full}
use Rattle.words.proofs.Value.{fits_fit}
use Rattle.words.proofs.is_clean.Goals as goal

flip : {A B : Type 0} → A ↔ B → B ↔ A
flip e = (e.1, e.0)

pub returns-then-s-eq0 : goal.returns-then-s-eq0
returns-then-s-eq0 c =
    let g = c.args in
    let e : g.columns % 64 ≡ 0 = sym c.odd_bits-s.ensures ∙ c.if-s-eq0.true in
    eq-eqb c.odd_bits-s.result 0 c.if-s-eq0.true
    ∙ narrow_all g.columns (rows_of g.w g.rows g.m.now)
    (λ k h. last_word_row_full g.w g.rows k g.m.now g.columns (omega (arith, length_rows g.w g.rows g.m.now)) c.requires.0
    (fits_fit g.m.now c.type_inv.m) c.requires.1 e)

pub returns-else-s-eq0 : goal.returns-else-s-eq0
returns-else-s-eq0 c =
    let g = c.args in
    let R : List ℕ = rows_of g.w g.rows g.m.now in
    let Zero : ℕ → Type 0 = λ i. get_or g.m.now (i * g.w + (g.w - 1)) 0 / 2 ^ (g.columns % 64) ≡ 0 in
    let each = each_below g.rows c.all.result Zero c.all.ensures.ran (λ x q k. search (rules, tests)) (λ x q k. search (rules, tests)) in
    narrow_by g.columns g.rows R c.all.result (length_rows g.w g.rows g.m.now)
    (each_same g.rows c.all.result Zero (λ i. row R i < 2 ^ g.columns)
    (λ i h. flip (last_word_row g.w g.rows i g.m.now g.columns h c.requires.0 (fits_fit g.m.now c.type_inv.m) c.requires.1
    (λ z. c.if-s-eq0.false (c.odd_bits-s.ensures ∙ z)))) each)
