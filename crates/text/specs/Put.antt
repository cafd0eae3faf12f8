-- Text put into a lent buffer: as much of it as there is room for.
use Rattle.std.specs.Prelude.{◌≡◌, List, ◌++◌, ℕ, ◌+◌, ◌-◌, min, length, take, drop}
use Rattle.text.specs.declared.Page.{Page}

-- the buffer with a text in place of what stood from byte p on; what is past the buffer's end is left out, what is past the text stays
unfoldable pub over : ℕ → List ℕ → List ℕ → List ℕ
over p text out = take p out ++ (take (length out - p) text ++ drop (p + length text) out)

-- a text is put at byte p, and ends at byte r
pub record Put (p : ℕ) (text out : List ℕ) (r : ℕ) (out' : List ℕ) : Type 0 where
  pub ends : r ≡ min (p + length text) (length out)
  pub holds : out' ≡ over p text out

-- a text is put where the text of a page ends; the page is on the same buffer as before
pub record Written (text : List ℕ) (old new : Page) : Type 0 where
  pub put : Put old.end text old.buffer.now new.end new.buffer.now
  pub same : new.buffer.ghost_name ≡ old.buffer.ghost_name
