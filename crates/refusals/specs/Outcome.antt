-- The number of each refusal, and the first of several checks that refuses.
use Rattle.std.specs.Prelude.{◌≡◌, Bool, true, false, List, [], ◌∷◌, ℕ, Result, Ok, Err}
use Rattle.refusals.specs.declared.Refusal.{Refusal}
use Rattle.refusals.specs.declared.Refusal.TheVariants.{TooManyRows, BadColumns, BadK, WrongLength, DirtyPadding, ShortRoom, BadBlocks, NotSquare, NoInverse, Contradictory, TooWide, NotBelow, WrongBuffer, BundleSize, EntryCount, ContentsCut, BadKind, BadShape, WrongOffset, BodyPast, BytesLeft, ShortOutput, BundleOver}
use Rattle.refusals.specs.declared.Unfit.{Unfit}

-- what a check answers
abbrev pub Outcome : Type 0
Outcome = Result (Unit {0}) Refusal

abbrev pub number_of : Refusal → ℕ
number_of TooManyRows = 1
number_of BadColumns = 2
number_of BadK = 3
number_of WrongLength = 4
number_of DirtyPadding = 5
number_of ShortRoom = 6
number_of BadBlocks = 7
number_of NotSquare = 8
number_of NoInverse = 9
number_of Contradictory = 10
number_of TooWide = 11
number_of NotBelow = 12
number_of WrongBuffer = 13
number_of BundleSize = 20
number_of EntryCount = 21
number_of ContentsCut = 22
number_of BadKind = 23
number_of BadShape = 24
number_of WrongOffset = 25
number_of BodyPast = 26
number_of BytesLeft = 27
number_of ShortOutput = 28
number_of BundleOver = 29

-- 0 where nothing is refused
abbrev pub outcome_number : {A : Type 0} → Result A Refusal → ℕ
outcome_number (Ok a) = 0
outcome_number (Err r) = number_of r

-- an answer without its value: done, or the refusal
abbrev pub outcome_of : {A : Type 0} → Result A Refusal → Outcome
outcome_of (Ok a) = Ok tt
outcome_of (Err r) = Err r

-- a check: this refusal, exactly if the test holds
abbrev pub refuse_if : Bool → Refusal → Outcome
refuse_if true r = Err r
refuse_if false r = Ok tt

-- a test's answer
abbrev pub Decides : Bool → Type 0 → Type 0
Decides true A = A
Decides false A = A → ⊥

-- taken exactly if the shapes fit: then what follows of the value; else nothing has changed
abbrev pub Taken : {A : Type 0} → Result A Unfit → Type 0 → (A → Type 0) → Type 0 → Type 0
Taken (Ok a) fits follows unchanged = fits × follows a
Taken (Err e) fits follows unchanged = (fits → ⊥) × unchanged

infixl 30 ◌and_then◌
-- the first of two checks that refuses
abbrev pub ◌and_then◌ : Outcome → Outcome → Outcome
(Ok t) and_then o = o
(Err r) and_then o = Err r

-- checks in order: the first that refuses
abbrev pub first_after : Outcome → List Outcome → Outcome
first_after o [] = o
first_after o (p ∷ ps) = first_after (o and_then p) ps

abbrev pub first : List Outcome → Outcome
first os = first_after (Ok tt) os

-- What a call promises, by the outcome of its checks: refused as they say, with nothing changed; or, where they pass, what follows
pub record Promised (checks : Outcome) (refused : Refusal → Type 0) (follows : Type 0) : Type 0 where
  pub stopped : (r : Refusal) → checks ≡ Err r → refused r
  pub past : checks ≡ Ok tt → follows
