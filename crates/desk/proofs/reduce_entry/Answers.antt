-- Found or not, fitting or not; the front of the words is unpacked into, and reduced.
use Rattle.std.proofs.Common.{rules, sym, ◌∙◌}
use mathlib.Core.Logic.{inl, inr}
use Rattle.words.proofs.Value.{fits_fit}
use Rattle.bundle.specs.Bundle.{both_kinds, meaning}
use Rattle.bundle.specs.Answers.{find}
use Rattle.desk.proofs.Front.{not_found, held, unfit, is_lent, is_reduced, reduced}
use Rattle.desk.proofs.reduce_entry.Goals.{then-words-rows-via-then-words-rows, then-words-rows-via-else-words-rows+then-room-w}
use Rattle.desk.proofs.reduce_entry.Goals as goal

pub returns-in_err-entry : goal.returns-in_err-entry
returns-in_err-entry c =
    let g = c.args in
    search (rules, not_found (find g.i (meaning both_kinds g.bytes.now)) c.in_err-entry.field-0.0 g.words.now g.room.now (sym c.in_err-entry.was ∙ c.entry.ensures))

pub returns-then-words-rows : goal.returns-then-words-rows
returns-then-words-rows c =
    let g = c.args in
    let h = held g.i g.bytes.now (sym c.in_ok-entry.was ∙ c.entry.ensures) c.from-rows.ensures c.from-columns.ensures c.per_row-w.ensures in
    elim c.then-words-rows.branch [
      | then-words-rows-via-then-words-rows w ↦ unfit h g.words.now g.room.now (inl w.if-words-rows.true)
      | then-words-rows-via-else-words-rows+then-room-w w ↦ unfit h g.words.now g.room.now (inr w.if-room-w.true)
    ]

pub returns-in_err-unpack : goal.returns-in_err-unpack
returns-in_err-unpack c =
    let g = c.args in
    let h = held g.i g.bytes.now (sym c.in_ok-entry.was ∙ c.entry.ensures) c.from-rows.ensures c.from-columns.ensures c.per_row-w.ensures in
    absurd (is_lent h g.words.now g.room.now c.if-words-rows.false c.if-room-w.false c.in_err-unpack.field-0.0 (sym c.in_err-unpack.was ∙ c.unpack.ensures.0))

pub returns-in_err-reduced : goal.returns-in_err-reduced
returns-in_err-reduced c =
    let g = c.args in
    let h = held g.i g.bytes.now (sym c.in_ok-entry.was ∙ c.entry.ensures) c.from-rows.ensures c.from-columns.ensures c.per_row-w.ensures in
    absurd (is_reduced h g.words.now g.room.now c.if-words-rows.false c.if-room-w.false _ c.unpack.ensures.1 _ _ _ c.reduce.ensures c.in_err-reduced.field-0.0 c.in_err-reduced.was)

pub returns : goal.returns
returns c =
    let g = c.args in
    let h = held g.i g.bytes.now (sym c.in_ok-entry.was ∙ c.entry.ensures) c.from-rows.ensures c.from-columns.ensures c.per_row-w.ensures in
    reduced h g.words.now g.room.now c.if-words-rows.false c.if-room-w.false _ c.unpack.ensures.1 _ _ _ c.reduce.ensures c.in_ok-reduced.reduced c.in_ok-reduced.was (search rules) (fits_fit _ c.type_inv.words)
