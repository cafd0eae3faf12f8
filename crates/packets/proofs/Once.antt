-- The two calls' promises leave no choice: two outcomes that one of them allows for the same arguments are equal, word for word. And but for the number of
-- table additions the answers do not depend on k.
use mathlib.Core.Path.{◌≡◌, refl, sym, ap, ap₂, ◌∙◌}
use mathlib.Core.Logic.{◌⊎◌, inl, inr}
use Rattle.std.specs.Prelude.{Result, Ok}
use mathlib.Core.List.{List}
use Prim.Native.Nat.{ℕ, ◌-◌, ◌*◌}
use lib.ListN.{length}
use Rattle.gf2.specs.Reduced.{rank, pivot_record}
use Rattle.gf2.specs.Additions.{additions}
use Rattle.gf2.proofs.Reduced.{one_reduced_form}
use Rattle.words.specs.Words.{Slice, value, words_of, rows_of}
use Rattle.words.proofs.Slices.{same_slice, same_number}
use Rattle.images.proofs.Meeting.{contradiction_unmet}
use Rattle.images.specs.ReadOff.{unknown_block, named}
use Rattle.refusals.specs.Outcome.{outcome_of}
use Rattle.refusals.specs.Checks.{solving_checks, contradiction_checks}
use Rattle.refusals.proofs.Chain.{by_promise}
use Rattle.refusals.proofs.Passed.{solving_passed}
use Rattle.refusals.specs.declared.Refusal.{Refusal}
use Rattle.matrix.specs.declared.Answer.{Answer}
use Rattle.matrix.specs.Calls.{figures}
use Rattle.packets.specs.declared.Verdict.{Verdict}
use Rattle.packets.specs.Solving as solving
use Rattle.packets.specs.Solving.{Alike}
use Rattle.packets.specs.Contradiction as naming
use Rattle.packets.proofs.Marks.{alike, one_solved}

-- ---- solving

module _ (rows columns n : ℕ) (m m' m₂ image image' image₂ marks marks' marks₂ : List ℕ) (sm : Slice m m') (sm₂ : Slice m m₂) (si : Slice image image') (si₂ : Slice image image₂)
    (lm : length marks' ≡ length marks) (lm₂ : length marks₂ ≡ length marks) where
  abbrev L : List ℕ
  L = rows_of (words_of columns) rows m

  -- whatever is counted
  module _ (unknown : ℕ) (counts counts₂ : List ℕ → ℕ) (r r₂ : Result Answer Refusal) (exact : length m ≡ rows * words_of columns) (fitting : length image ≡ n * words_of (columns - n)) (marked : length marks ≡ n)
      (a : solving.Solving unknown counts rows columns n m image marks r m' image' marks') (b : solving.Solving unknown counts₂ rows columns n m image marks r₂ m₂ image₂ marks₂) where
    abbrev N : List ℕ
    N = rows_of (words_of columns) rows m'

    abbrev N₂ : List ℕ
    N₂ = rows_of (words_of columns) rows m₂

    same_rows : N ≡ N₂
    same_rows = one_reduced_form a.reduced b.reduced

    -- matrix, image, marks, and the answers but for the counts; these too, where they are the same function
    pub any_engine : (m' ≡ m₂) × (image' ≡ image₂) × (marks' ≡ marks₂) × Alike r r₂ × (counts ≡ counts₂ → r ≡ r₂)
    any_engine =
        let t = go a.answered b.answered in
        (same_slice m m' m₂ sm sm₂ (words_of columns) rows exact same_rows, t.0, t.1, t.2, t.3)
      where
        go : solving.BlocksTold unknown counts columns n L N r image' marks' ⊎ solving.Refuted columns n L r image marks image' marks'
            → solving.BlocksTold unknown counts₂ columns n L N₂ r₂ image₂ marks₂ ⊎ solving.Refuted columns n L r₂ image marks image₂ marks₂
            → (image' ≡ image₂) × (marks' ≡ marks₂) × Alike r r₂ × (counts ≡ counts₂ → r ≡ r₂)
        go (inl c) (inl d) =
            let o = one_solved c.solved d.solved (lm ∙ marked) (lm₂ ∙ marked) in
            let f = c.answered in
            let g = d.answered in (
              same_slice image image' image₂ si si₂ (words_of (columns - n)) n fitting o.0,
              o.1,
              (
                ap outcome_of f ∙ sym (ap outcome_of g),
                ap (λ (x : Result Answer Refusal). (figures x).rank) f ∙ ap rank same_rows ∙ sym (ap (λ (x : Result Answer Refusal). (figures x).rank) g),
                o.2,
                ap (λ (x : Result Answer Refusal). (figures x).pivots) f ∙ ap (pivot_record 512) same_rows ∙ sym (ap (λ (x : Result Answer Refusal). (figures x).pivots) g),
              ),
              λ h. (
                  f ∙ ap₂ (λ (x : List ℕ → ℕ) (y : List ℕ). Ok (solving.solved_answer x y (figures r).known)) h same_rows
                  ∙ ap (λ (x : ℕ). Ok (solving.solved_answer counts₂ N₂ x)) o.2 ∙ sym g
                  ),
            )
        go (inr c) (inr d) =
            let f : r ≡ r₂ = c.answered ∙ sym d.answered in (
              c.image_kept ∙ sym d.image_kept,
              c.marks_kept ∙ sym d.marks_kept,
              alike f,
              λ _. f,
            )
        go (inl c) (inr d) = absurd (d.unmet c.solved.met)
        go (inr c) (inl d) = absurd (c.unmet d.solved.met)

  -- two runs that pass their checks, whatever k and work room each has
  module _ (k k₂ : ℕ) (room room₂ room' room₂' : List ℕ) (r r₂ : Result Answer Refusal) (e : solving_checks rows columns n k m (length image) (length marks) (length room) ≡ Ok tt)
      (e₂ : solving_checks rows columns n k₂ m (length image) (length marks) (length room₂) ≡ Ok tt) (p : solving.SolvingPromised rows columns n k m image marks room r m' image' marks' room')
      (q : solving.SolvingPromised rows columns n k₂ m image marks room₂ r₂ m₂ image₂ marks₂ room₂') where
    both : (m' ≡ m₂) × (image' ≡ image₂) × (marks' ≡ marks₂) × Alike r r₂ × (additions k columns ≡ additions k₂ columns → r ≡ r₂)
    both =
        let passes = solving_passed rows columns n k m (length image) (length marks) (length room) e in
        any_engine unknown_block (additions k columns) (additions k₂ columns) r r₂ passes.exact passes.fitting passes.marked (p.past e).0 (q.past e₂).0

    pub any_k : (m' ≡ m₂) × (image' ≡ image₂) × (marks' ≡ marks₂) × Alike r r₂
    any_k = (both.0, both.1, both.2, both.3)

  pub one_solving : (k : ℕ) (room room' room₂ : List ℕ) (r r₂ : Result Answer Refusal) → solving.SolvingPromised rows columns n k m image marks room r m' image' marks' room'
      → solving.SolvingPromised rows columns n k m image marks room r₂ m₂ image₂ marks₂ room₂ → (r ≡ r₂) × (m' ≡ m₂) × (image' ≡ image₂) × (marks' ≡ marks₂) × (room' ≡ room₂)
  one_solving k room room' room₂ r r₂ p q =
      by_promise p
      (λ x e a. let b = q.stopped x e in (a.0 ∙ sym b.0, a.1 ∙ sym b.1, a.2 ∙ sym b.2, a.3 ∙ sym b.3, a.4 ∙ sym b.4))
      (λ e a. let t = both k k room room room' room₂ r r₂ e e p q in (t.4 refl, t.0, t.1, t.2, a.1 ∙ sym (q.past e).1))

-- ---- the contradiction call

module _ (rows columns n : ℕ) (m names names' names₂ : List ℕ) (s : Slice names names') (s₂ : Slice names names₂) where
  abbrev M : List ℕ
  M = rows_of (words_of columns) rows m

  same_names : (r r₂ : Result Verdict Refusal) → naming.Judged rows columns n m names r names' → naming.Judged rows columns n m names r₂ names₂ → (r ≡ r₂) × (names' ≡ names₂)
  same_names r r₂ (inl c) (inl d) =
      (c.0 ∙ sym d.0, same_number names names' names₂ s s₂ (c.1.names ∙ ap (named n (columns - n)) (one_reduced_form c.1.reduced d.1.reduced) ∙ sym d.1.names))
  same_names r r₂ (inr c) (inr d) = (c.0 ∙ sym d.0, c.2 ∙ sym d.2)
  same_names r r₂ (inl c) (inr d) = absurd (contradiction_unmet n (columns - n) M (value names') c.1.contradicts d.1)
  same_names r r₂ (inr c) (inl d) = absurd (contradiction_unmet n (columns - n) M (value names₂) d.1.contradicts c.1)

  pub one_verdict : (k : ℕ) (room room' room₂ : List ℕ) (r r₂ : Result Verdict Refusal) → naming.NamingPromised rows columns n k m names room r names' room' → naming.NamingPromised rows columns n k m names room r₂ names₂ room₂
      → (r ≡ r₂) × (names' ≡ names₂) × (room' ≡ room₂)
  one_verdict k room room' room₂ r r₂ p q =
      by_promise p
      (λ x e a. let b = q.stopped x e in (a.0 ∙ sym b.0, a.1 ∙ sym b.1, a.2 ∙ sym b.2))
      (λ e a. (
      let b = q.past e in
      let t = same_names r r₂ a.0 b.0 in
      (t.0, t.1, a.1 ∙ sym b.1)
      ))

  -- the named packets do not depend on k
  pub any_k_names : (k k₂ : ℕ) (room room₂ room' room₂' : List ℕ) (r r₂ : Result Verdict Refusal) → contradiction_checks rows columns n k m (length names) (length room) ≡ Ok tt
      → contradiction_checks rows columns n k₂ m (length names) (length room₂) ≡ Ok tt → naming.NamingPromised rows columns n k m names room r names' room'
      → naming.NamingPromised rows columns n k₂ m names room₂ r₂ names₂ room₂' → (r ≡ r₂) × (names' ≡ names₂)
  any_k_names k k₂ room room₂ room' room₂' r r₂ e e₂ p q = same_names r r₂ (p.past e).0 (q.past e₂).0
