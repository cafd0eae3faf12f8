-- A turn exchanges one word more of two rows that do not overlap: swap_turn.
use Rattle.words.proofs.Parts.{swap_turn}
use Rattle.words.proofs.Rows.{apart}
use borrow.Author.Rules.{rules}
use Rattle.engine.proofs.rows.swap_rows.Goals as goal

pub loop-l-preserved : goal.loop-l-preserved
loop-l-preserved c = search (rules, swap_turn, apart)
