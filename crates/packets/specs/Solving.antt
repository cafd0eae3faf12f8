-- What solving promises, in terms of images.
use Rattle.std.specs.Prelude.{◌≡◌, ◌⊎◌, ◌↔◌, List, ℕ, ◌-◌, ◌<◌, length, Result, Ok, Err}
use Rattle.gf2.specs.Rows.{row}
use Rattle.gf2.specs.Reduced.{ReducedForm, rank, pivot_record}
use Rattle.gf2.specs.Additions.{additions}
use Rattle.words.specs.Words.{words_of, rows_of}
use Rattle.images.specs.Packets.{Image, MeetsAll, Met, Contradictory, Agreed}
use Rattle.images.specs.ReadOff.{unknown_block, marked}
use Rattle.refusals.specs.declared.Refusal.{Refusal}
use Rattle.refusals.specs.declared.Refusal.TheVariants as refusal
use Rattle.refusals.specs.Outcome.{outcome_of, Promised}
use Rattle.refusals.specs.Checks.{solving_checks}
use Rattle.matrix.specs.declared.Answer.{Answer}
use Rattle.matrix.specs.Calls.{figures, TableCleared}

-- Of n blocks of p bits: the packets L can be met; the mark of a block is 1 where no two images that meet L differ in it, else 0; a marked block's content
-- is that of each such image, and in an unmarked block stands `unknown`.
pub record Solved (unknown n p : ℕ) (L image marks : List ℕ) (known : ℕ) : Type 0 where
  pub met : Met n p L
  pub known_marked : (j : ℕ) → j < n → (row marks j ≡ 1) ↔ Agreed n p L j
  pub unknown_marked : (j : ℕ) → j < n → (row marks j ≡ 0) ↔ (Agreed n p L j → ⊥)
  pub contents : (j : ℕ) → j < n → row marks j ≡ 1 → (X : List ℕ) → Image n p X → MeetsAll n X L → row image j ≡ row X j
  pub unknowns : (j : ℕ) → j < n → row marks j ≡ 0 → row image j ≡ unknown
  pub padding_zero : Image n p image
  pub counted : known ≡ marked marks

-- the answer of packets that can be met: rank, counts and pivots of the reduced packets N, and the number of known blocks
abbrev pub solved_answer : (List ℕ → ℕ) → List ℕ → ℕ → Answer
solved_answer counts N known = record { rank = rank N; known = known; additions = counts N; pivots = pivot_record 512 N }

-- two answers alike in all but the table additions: in outcome, rank, number known and pivots
abbrev pub Alike : Result Answer Refusal → Result Answer Refusal → Type 0
Alike r r₂ =
    (outcome_of r ≡ outcome_of r₂) × ((figures r).rank ≡ (figures r₂).rank) × ((figures r).known ≡ (figures r₂).known)
    × ((figures r).pivots ≡ (figures r₂).pivots)

-- some image meets the packets, and the blocks are told
pub record BlocksTold (unknown : ℕ) (counts : List ℕ → ℕ) (columns n : ℕ) (L N : List ℕ) (r : Result Answer Refusal) (image' marks' : List ℕ) : Type 0 where
  pub solved : Solved unknown n (columns - n) L (rows_of (words_of (columns - n)) n image') marks' (figures r).known
  pub answered : r ≡ Ok (solved_answer counts N (figures r).known)

-- no image meets the packets, which is number 10, and image and marks are as they were
pub record Refuted (columns n : ℕ) (L : List ℕ) (r : Result Answer Refusal) (image marks image' marks' : List ℕ) : Type 0 where
  pub unmet : Contradictory n (columns - n) L
  pub answered : r ≡ Err refusal.Contradictory
  pub image_kept : image' ≡ image
  pub marks_kept : marks' ≡ marks

-- past the checks: the packets are reduced, and told or refuted
pub record Solving (unknown : ℕ) (counts : List ℕ → ℕ) (rows columns n : ℕ) (m image marks : List ℕ) (r : Result Answer Refusal) (m' image' marks' : List ℕ) : Type 0 where
  pub reduced : ReducedForm (rows_of (words_of columns) rows m) (rows_of (words_of columns) rows m')
  pub answered :
      BlocksTold unknown counts columns n (rows_of (words_of columns) rows m) (rows_of (words_of columns) rows m') r image' marks'
      ⊎ Refuted columns n (rows_of (words_of columns) rows m) r image marks image' marks'

-- by the table: refused with nothing changed; or told or refuted, and the room cleared
abbrev pub SolvingPromised : ℕ → ℕ → ℕ → ℕ → List ℕ → List ℕ → List ℕ → List ℕ → Result Answer Refusal → List ℕ → List ℕ → List ℕ → List ℕ → Type 0
SolvingPromised rows columns n k m image marks room r m' image' marks' room' =
    Promised (solving_checks rows columns n k m (length image) (length marks) (length room))
    (λ x. (r ≡ Err x) × (m' ≡ m) × (image' ≡ image) × (marks' ≡ marks) × (room' ≡ room))
    (Solving unknown_block (additions k columns) rows columns n m image marks r m' image' marks' × TableCleared columns k room room')
