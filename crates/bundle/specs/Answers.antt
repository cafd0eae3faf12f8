-- What the calls that read a bundle answer: each a function of the bundle's meaning.
use Rattle.std.specs.Prelude.{Bool, true, false, List, [], ◌∷◌, ℕ, zero, suc, eqb, length, Result, Ok, Err}
use Rattle.words.specs.Words.{words_of, flat}
use Rattle.refusals.specs.declared.Refusal.{Refusal}
use Rattle.refusals.specs.declared.Refusal.TheVariants.{NotBelow, WrongLength}
use Rattle.refusals.specs.Outcome.{Outcome}
use Rattle.bundle.specs.Bundle.{Entry, body_words, Meaning, meaning}
use Rattle.bundle.specs.declared.Numbers.{Numbers}

-- reading: how many entries
unfoldable pub counted_in : Meaning → Result ℕ Refusal
counted_in (Ok es) = Ok (length es)
counted_in (Err r) = Err r

-- what is found where an entry is looked for: it, or why there is none
abbrev pub Lookup : Type 0
Lookup = Result Entry Refusal

-- entry i of a list, counted from 0; past the last there is none (12)
unfoldable pub entry_in : ℕ → List Entry → Lookup
entry_in i [] = Err NotBelow
entry_in zero (e ∷ es) = Ok e
entry_in (suc i) (e ∷ es) = entry_in i es

-- entry i of what bytes mean
unfoldable pub find : ℕ → Meaning → Lookup
find i (Ok es) = entry_in i es
find i (Err r) = Err r

-- an entry's three numbers
unfoldable pub told_of : Lookup → Result Numbers Refusal
told_of (Ok e) = Ok (record { kind = e.kind; rows = e.rows; columns = e.columns })
told_of (Err r) = Err r

-- words are lent for it: exactly as many as its body has (4)
abbrev pub fitting : Bool → Entry → Lookup
fitting true e = Ok e
fitting false e = Err WrongLength

unfoldable pub lent_for : ℕ → Lookup → Lookup
lent_for n (Ok e) = fitting (eqb n (body_words e.rows e.columns)) e
lent_for n (Err r) = Err r

-- entry i of a bundle, and words lent for it
abbrev pub lent_entry : (ℕ → Outcome) → ℕ → List ℕ → List ℕ → Lookup
lent_entry rule i b words = lent_for (length words) (find i (meaning rule b))

-- what the lent words then hold: the rows in the order of kind 1; or what they held before
unfoldable pub unpacked_of : Lookup → List ℕ → List ℕ
unpacked_of (Ok e) words = flat (words_of e.columns) e.matrix
unpacked_of (Err r) words = words
