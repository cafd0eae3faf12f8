-- The reflected Gray code: from one number to the next, its code changes in one digit. No public promise cites it.
use Rattle.std.specs.Prelude.{ℕ, ◌/◌}
use Rattle.gf2.specs.Rows.{◌⊕◌}

abbrev pub gray : ℕ → ℕ
gray t = t ⊕ t / 2
