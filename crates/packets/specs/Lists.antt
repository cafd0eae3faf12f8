-- One call of solving, so that the calls of two lists of packets can be compared.
use Rattle.std.specs.Prelude.{◌≡◌, ◌⊎◌, List, ℕ, ◌-◌, length, Result, Ok, Err}
use Rattle.gf2.specs.Rows.{row}
use Rattle.words.specs.Words.{words_of, rows_of}
use Rattle.refusals.specs.declared.Refusal.{Refusal}
use Rattle.refusals.specs.declared.Refusal.TheVariants as refusal
use Rattle.refusals.specs.Outcome.{outcome_of}
use Rattle.refusals.specs.Checks.{solving_checks}
use Rattle.matrix.specs.declared.Answer.{Answer}
use Rattle.packets.specs.Solving.{Alike, SolvingPromised}

-- a call that got past its checks; a slice keeps its length over a call
pub record Call (columns n : ℕ) : Type 0 where
  pub rows : ℕ
  pub k : ℕ
  pub m : List ℕ
  pub image : List ℕ
  pub marks : List ℕ
  pub room : List ℕ
  pub answer : Result Answer Refusal
  pub m' : List ℕ
  pub image' : List ℕ
  pub marks' : List ℕ
  pub room' : List ℕ
  pub passed : solving_checks rows columns n k m (length image) (length marks) (length room) ≡ Ok tt
  pub promise : SolvingPromised rows columns n k m image marks room answer m' image' marks' room'
  pub marks_long : length marks' ≡ length marks

module _ {columns n : ℕ} where
  abbrev pub packets : Call columns n → List ℕ
  packets c = rows_of (words_of columns) c.rows c.m

  -- the blocks as the call left them
  abbrev pub blocks : Call columns n → List ℕ
  blocks c = rows_of (words_of (columns - n)) n c.image'

  abbrev pub block : Call columns n → ℕ → ℕ
  block c j = row (blocks c) j

  -- refused as contradictory, and answered
  abbrev pub IsRefused : Call columns n → Type 0
  IsRefused c = outcome_of c.answer ≡ Err refusal.Contradictory

  abbrev pub IsAnswered : Call columns n → Type 0
  IsAnswered c = outcome_of c.answer ≡ Ok tt

  -- two calls end alike: their answers differ in the table additions at most, and not even in these if they have one k; both are refused as contradictory,
  -- or both are answered, with the same marks and the same blocks
  abbrev pub EndAlike : Call columns n → Call columns n → Type 0
  EndAlike c d =
      Alike c.answer d.answer × (c.k ≡ d.k → c.answer ≡ d.answer)
      × ((IsRefused c × IsRefused d) ⊎ (IsAnswered c × IsAnswered d × (c.marks' ≡ d.marks') × (blocks c ≡ blocks d)))
