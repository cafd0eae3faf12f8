-- What the steps of reading do, one by one. No public promise cites any of it.
use Rattle.std.specs.Prelude.{◌≡◌, List, ℕ, Ok}
use Rattle.refusals.specs.Outcome.{Outcome}
use Rattle.bundle.specs.Bundle.{kind_at, rows_at, columns_at, offset_at, Placed, entry_at, meaning}
use Rattle.bundle.specs.Answers.{find}
use Rattle.bundle.specs.declared.ruled.Head.{Head}

-- what the contents say of entry i
abbrev pub head_at : ℕ → List ℕ → Head
head_at i b = record { kind = kind_at i b; rows = rows_at i b; columns = columns_at i b; offset = offset_at i b }

-- bytes mean a bundle, and h is what its contents say of entry i
pub record Found (rule : ℕ → Outcome) (i : ℕ) (b : List ℕ) (h : Head) : Type 0 where
  pub there : find i (meaning rule b) ≡ Ok (entry_at i b)
  pub placed : Placed rule i (offset_at i b) b
  pub same : h ≡ head_at i b
