-- A turn stores one sum more; the two rows do not overlap: within_turn.
use Rattle.words.proofs.Parts.{within_turn}
use Rattle.words.proofs.Rows.{apart}
use borrow.Author.Rules.{rules}
use Rattle.engine.proofs.rows.add_within.Goals as goal

pub loop-l-preserved : goal.loop-l-preserved
loop-l-preserved c = search (rules, within_turn, apart)
