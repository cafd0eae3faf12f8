-- A slice after a call keeps its length, and its words fit 64 bits: so the rows, or the number, that it holds fix its words.
use mathlib.Core.Path.{◌≡◌, sym, ap₂, ◌∙◌}
use mathlib.Core.List.{List, ◌++◌}
use Prim.Native.Nat.{ℕ, ◌*◌, ◌≤◌}
use lib.ListN.{length, drop, take-append-drop}
use Rattle.words.specs.Words.{Fit, Slice, value, rows_of}
use Rattle.words.proofs.Value.{value_one}
use Rattle.words.proofs.Rows.{rows_one, rows_one_all}

-- rows and what lies past them fix the words
pub same_words : (w n : ℕ) (x y : List ℕ) → Fit x → Fit y → n * w ≤ length x → n * w ≤ length y → rows_of w n x ≡ rows_of w n y → drop (n * w) x ≡ drop (n * w) y → x ≡ y
same_words w n x y fx fy lx ly e d =
    sym (take-append-drop (n * w) x) ∙ ap₂ (λ (a b : List ℕ). a ++ b) (rows_one w n x y fx fy lx ly e) d ∙ take-append-drop (n * w) y

module _ (m m' m₂ : List ℕ) (s : Slice m m') (s₂ : Slice m m₂) where
  -- a slice that holds nothing but the rows
  pub same_slice : (w n : ℕ) → length m ≡ n * w → rows_of w n m' ≡ rows_of w n m₂ → m' ≡ m₂
  same_slice w n l e = rows_one_all w n m' m₂ s.fit s₂.fit (s.size ∙ l) (s₂.size ∙ l) e

  -- a slice that holds one number
  pub same_number : value m' ≡ value m₂ → m' ≡ m₂
  same_number e = value_one m' m₂ s.fit s₂.fit (s.size ∙ sym s₂.size) e
