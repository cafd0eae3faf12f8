-- A turn copies one word more: copy_turn.
use Rattle.words.proofs.Parts.{copy_turn}
use borrow.Author.Rules.{rules}
use Rattle.engine.proofs.rows.copy_words.Goals as goal

pub loop-l-preserved : goal.loop-l-preserved
loop-l-preserved c = search (rules, copy_turn)
