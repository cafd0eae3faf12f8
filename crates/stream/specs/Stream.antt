-- What can be said of a stream: never more bytes than there is room for; and, where the bytes that a reader has left or a writer
-- holds are known, which of them were moved.
use Rattle.std.specs.Prelude.{ℕ, ◌<◌, ◌≤◌, List, length, take, Option, Result, Ok, Err}
use Rattle.std.specs.Io.KnownBytes.{Appends, Consumes, IsAtEnd}
use Rattle.std.specs.List.{FoldsTo}
use Rattle.std.specs.declared.io.Error.{Error}

abbrev pub Within : ℕ → Result ℕ Error → Type 0
Within len (Ok n) = n ≤ len
Within len (Err e) = Unit {0}

-- some front of the buffer is what the reader gave
abbrev pub ConsumesFront : Option (List ℕ) → Option (List ℕ) → List ℕ → Type 0
ConsumesFront old new buffer = (n : ℕ) × (n ≤ length buffer) × Consumes old new (take n buffer)

-- reading to the end: the buffer's front is what the reader gave, and a buffer that was not filled holds all of it
abbrev pub ReadFull : Option (List ℕ) → Option (List ℕ) → Result ℕ Error → List ℕ → Type 0
ReadFull old new (Ok n) buffer = Consumes old new (take n buffer) × (n < length buffer → IsAtEnd new)
ReadFull old new (Err e) buffer = ConsumesFront old new buffer

-- the writer took some front of the bytes
abbrev pub AppendsFront : Option (List ℕ) → Option (List ℕ) → List ℕ → Type 0
AppendsFront old new bytes = (n : ℕ) × (n ≤ length bytes) × Appends old new (take n bytes)

-- a step tried again and again, from one state to the next: each try fails, no more than so many, but for the last one, which answers
-- (no public promise cites this)
abbrev pub Tried : {F : Type 0} → ℕ → (F → Result ℕ Error → F → Type 0) → F → Result ℕ Error → F → Type 0
Tried {F} most try begun answer ended =
    (errors : List Error) × (last : F) × (length errors ≤ most) × FoldsTo (λ f e f'. try f (Err e) f') begun errors last × try last answer ended
