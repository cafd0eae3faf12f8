-- What the steps of writing do, one by one. No public promise cites any of it.
use Rattle.std.specs.Prelude.{◌≡◌, List, ◌++◌, ℕ, ◌+◌, ◌≤◌, length, take, drop, Ok}
use Rattle.std.specs.declared.iter.Zip.{Zip}
use Rattle.std.specs.declared.slice.Iter.{Iter}
use Rattle.std.specs.Iterator.Adapters.{zip_first, zip_second}
use Rattle.std.specs.Slice.Iter.{iter_rest}
use Rattle.words.specs.Words.{Fit}
use Rattle.refusals.specs.Outcome.{Outcome}
use Rattle.pack.specs.Writing.{shapes_checks, all_words}

-- bytes xs in place of those from byte p on
unfoldable pub splice : ℕ → List ℕ → List ℕ → List ℕ
splice p xs out = take p out ++ (xs ++ drop (p + length xs) out)

-- every kind is taken
abbrev pub any_kind : ℕ → Outcome
any_kind kind = Ok tt

-- what the checks leave for the loops that write
pub record Checked (ks rs cs ws : List ℕ) : Type 0 where
  pub rows_too : length rs ≡ length ks
  pub columns_too : length cs ≡ length ks
  pub few : length ks ≤ 64
  pub shapes : shapes_checks any_kind ks rs cs ≡ Ok tt
  pub words_fit : all_words rs cs ≡ length ws
  pub fit : Fit ws

-- what is left of three lists that are read together
module _ {A B C : Type 0} where
  abbrev pub first_left : Zip (Zip (Iter A) (Iter B)) (Iter C) → List A
  first_left z = iter_rest (zip_first (zip_first z))

  abbrev pub second_left : Zip (Zip (Iter A) (Iter B)) (Iter C) → List B
  second_left z = iter_rest (zip_second (zip_first z))

  abbrev pub third_left : Zip (Zip (Iter A) (Iter B)) (Iter C) → List C
  third_left z = iter_rest (zip_second z)
