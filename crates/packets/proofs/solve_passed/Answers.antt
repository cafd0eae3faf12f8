-- The packets are reduced, and the blocks are read off, or a contradiction is seen.
use Rattle.std.proofs.Common.{rules, refl, ℕ}
use lib.ListN.{replicate, length-replicate}
use Rattle.packets.proofs.Calls.{known, refuted}
use Rattle.packets.proofs.solve_passed.Goals as goal

pub returns-in-Ok : goal.returns-in-Ok
returns-in-Ok c =
    let g = c.args in
    let d = c.eliminate in
    let found = known g.rows g.columns g.n g.k g.m.now g.image.now g.marks.now g.room.now c.requires d.result c.unwrap-reduced.result (search rules) in
    found (replicate {A = ℕ} 512 65535) d.new.m d.new.t d.new.pivots (length-replicate {A = ℕ} 512 65535) (search rules) (search rules) d.ensures
    (replicate {A = ℕ} 16 0) refl (search rules) c.solution.new.image c.solution.new.marks c.in-Ok.known (search rules)

pub returns-in-Err-Contradictory : goal.returns-in-Err-Contradictory
returns-in-Err-Contradictory c =
    let g = c.args in
    let d = c.eliminate in
    let found = refuted g.rows g.columns g.n g.k g.m.now g.image.now g.marks.now g.room.now c.requires d.result c.unwrap-reduced.result (search rules) in
    found (replicate {A = ℕ} 512 65535) d.new.m d.new.t d.new.pivots (length-replicate {A = ℕ} 512 65535) (search rules) (search rules) d.ensures
    (replicate {A = ℕ} 16 0) refl (search rules) c.solution.new.image c.solution.new.marks (search rules)
