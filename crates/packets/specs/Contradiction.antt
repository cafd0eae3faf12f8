-- What the contradiction call promises.
use Rattle.std.specs.Prelude.{◌≡◌, ◌⊎◌, List, ℕ, ◌+◌, ◌-◌, ◌^◌, ◌<◌, length, Result, Ok, Err}
use Rattle.gf2.specs.Reduced.{ReducedForm}
use Rattle.gf2.specs.Inverse.{adjoin}
use Rattle.words.specs.Words.{value, words_of, rows_of}
use Rattle.images.specs.Packets.{Met, Contradiction}
use Rattle.images.specs.ReadOff.{named}
use Rattle.refusals.specs.declared.Refusal.{Refusal}
use Rattle.refusals.specs.Outcome.{Promised}
use Rattle.refusals.specs.Checks.{contradiction_checks}
use Rattle.beside.specs.Beside.{BesideCleared}
use Rattle.packets.specs.declared.Verdict.{Verdict}
use Rattle.packets.specs.declared.Verdict.TheVariants.{Named, None}

-- c names packets of L, by the bits of a number: those that the reduced form of the packets beside an identity names right of the first pivot inside the
-- payload. In the sum of these packets every coefficient is zero and some payload bit is not.
pub record Names (n p : ℕ) (L : List ℕ) (c : ℕ) : Type 0 where
  pub form : List ℕ
  pub reduced : ReducedForm (adjoin (n + p) L) form
  pub names : c ≡ named n p form
  pub among : c < 2 ^ length L
  pub contradicts : Contradiction n L c

-- past the checks: packets are named; or some image meets all packets, and the words are as they were
abbrev pub Judged : ℕ → ℕ → ℕ → List ℕ → List ℕ → Result Verdict Refusal → List ℕ → Type 0
Judged rows columns n m names r names' =
    ((r ≡ Ok Named) × Names n (columns - n) (rows_of (words_of columns) rows m) (value names'))
    ⊎ ((r ≡ Ok None) × Met n (columns - n) (rows_of (words_of columns) rows m) × (names' ≡ names))

-- by the table: refused with nothing changed; or judged, and the room cleared
abbrev pub NamingPromised : ℕ → ℕ → ℕ → ℕ → List ℕ → List ℕ → List ℕ → Result Verdict Refusal → List ℕ → List ℕ → Type 0
NamingPromised rows columns n k m names room r names' room' =
    Promised (contradiction_checks rows columns n k m (length names) (length room))
    (λ x. (r ≡ Err x) × (names' ≡ names) × (room' ≡ room))
    (Judged rows columns n m names r names' × BesideCleared rows columns k room room')
