-- Count, contents and bodies, one after the other, are the bundle.
use mathlib.Core.Path.{ap, ◌∙◌}
use lib.ListN.{length}
use Rattle.bundle.specs.Bundle.{head_bytes}
use Rattle.pack.specs.Encode.{contents_of, bodies_of}
use Rattle.pack.specs.Writing.{given}
use Rattle.pack.specs.Steps.{splice}
use Rattle.pack.proofs.Lengths.{count_given}
use Rattle.pack.proofs.Splices.{whole}
use native.Mathlib.Omega.{arith}
use Rattle.pack.proofs.put.bundle.Goals as goal

pub returns : goal.returns
returns c =
    let e = c.args.entries.now in
    let n = length e.kinds.now in
    let es = given e.kinds.now e.rows.now e.columns.now e.words.now in
    c.bodies.ensures
    ∙ ap (splice (head_bytes n) (bodies_of es))
    (c.contents.ensures
    ∙ ap (splice 2 (contents_of (head_bytes n) es)) c.number.ensures)
    ∙ whole es n c.args.out.now (count_given e.kinds.now e.rows.now e.columns.now e.words.now e.checked.rows_too e.checked.columns_too) (omega (arith, c.requires))
