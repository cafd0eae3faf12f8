-- A turn stores one sum more: add_turn.
use Rattle.words.proofs.Parts.{add_turn}
use borrow.Author.Rules.{rules}
use Rattle.engine.proofs.rows.add_words.Goals as goal

pub loop-l-preserved : goal.loop-l-preserved
loop-l-preserved c = search (rules, add_turn)
