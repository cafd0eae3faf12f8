-- Two lists of packets, solved by two calls, whatever order, k and work room each has: a second list that holds every packet of the first keeps each block
-- that the first made known, with its content, or is refused as contradictory; and lists of the same packets get the same answer.
use mathlib.Core.Path.{◌≡◌, sym, ap, ap₂, ◌∙◌}
use mathlib.Core.Logic.{◌⊎◌, inl, inr}
use Rattle.std.specs.Prelude.{Result, Ok}
use mathlib.Core.List.{List, ◌++◌}
use Prim.Native.Nat.{ℕ, ◌-◌, ◌<◌}
use native.Mathlib.Omega.{arith}
use lib.ListN.{length, replicate}
use Rattle.gf2.specs.Rows.{row}
use Rattle.gf2.specs.Reduced.{pivots}
use Rattle.gf2.specs.Additions.{table_additions, total, additions}
use Rattle.gf2.proofs.Pivots.{same_pivots}
use Rattle.words.specs.Words.{words_of, rows_of}
use Rattle.images.specs.Packets.{Image, MeetsAll, Agreed, Among}
use Rattle.images.specs.ReadOff.{unknown_block}
use Rattle.images.proofs.Meeting.{meets_among}
use Rattle.images.proofs.Lists.{order_and_repeats}
use Rattle.refusals.specs.Outcome.{outcome_of, outcome_number}
use Rattle.refusals.proofs.Passed.{solving_passed}
use Rattle.refusals.specs.declared.Refusal.{Refusal}
use Rattle.matrix.specs.declared.Answer.{Answer}
use Rattle.matrix.specs.Calls.{figures}
use Rattle.packets.specs.Solving.{BlocksTold, Refuted, Solving}
use Rattle.packets.specs.Lists.{Call, packets, block, IsRefused, IsAnswered, EndAlike}
use Rattle.packets.proofs.Marks.{alike, one_solved, solved_alike}

-- the answer of packets that can be met, by their pivots
abbrev by_pivots : ℕ → ℕ → ℕ → List ℕ → Result Answer Refusal
by_pivots columns k known ps =
    Ok (record { rank = length ps; known = known; additions = total table_additions k columns ps; pivots = ps ++ replicate (512 - length ps) 65535 })

module _ {columns n : ℕ} where
  solved_call : (c : Call columns n) → Solving unknown_block (additions c.k columns) c.rows columns n c.m c.image c.marks c.answer c.m' c.image' c.marks'
  solved_call c = (c.promise.past c.passed).0

  abbrev reduced : Call columns n → List ℕ
  reduced c = rows_of (words_of columns) c.rows c.m'

  -- told or refuted
  abbrev Ended : Call columns n → Type 0
  Ended c =
      BlocksTold unknown_block (additions c.k columns) columns n (packets c) (reduced c) c.answer c.image' c.marks'
      ⊎ Refuted columns n (packets c) c.answer c.image c.marks c.image' c.marks'

  module _ (first second : Call columns n) (among : Among (packets first) (packets second)) where
    -- a contradiction stays one
    pub still_refused : IsRefused first → IsRefused second
    still_refused f = go (solved_call first).answered (solved_call second).answered
      where
        go : Ended first → Ended second → IsRefused second
        go (inr a) (inr b) = ap outcome_of b.answered
        go (inr a) (inl b) = let m = b.solved.met in absurd (a.unmet (m.0, m.1, meets_among n m.0 (packets first) (packets second) among m.2))
        go (inl a) _ = absurd (omega (arith, ap outcome_number (sym (ap outcome_of a.answered) ∙ f)))

    -- a known block stays known, with its content, or the second list is refused
    pub still_known : (j : ℕ) → j < n → row first.marks' j ≡ 1 → IsRefused second ⊎ (IsAnswered second × (row second.marks' j ≡ 1) × (block second j ≡ block first j))
    still_known j l e = go (solved_call first).answered (solved_call second).answered
      where
        go : Ended first → Ended second → IsRefused second ⊎ (IsAnswered second × (row second.marks' j ≡ 1) × (block second j ≡ block first j))
        go _ (inr b) = inl (ap outcome_of b.answered)
        go (inr a) (inl b) = let m = b.solved.met in absurd (a.unmet (m.0, m.1, meets_among n m.0 (packets first) (packets second) among m.2))
        go (inl a) (inl b) = inr (ap outcome_of b.answered, known, b.solved.contents j l known X image met ∙ sym (a.solved.contents j l e X image (first_met X met)))
          where
            first_met : (X : List ℕ) → MeetsAll n X (packets second) → MeetsAll n X (packets first)
            first_met X = meets_among n X (packets first) (packets second) among

            agreed : Agreed n (columns - n) (packets second) j
            agreed X Y iX iY mX mY = (a.solved.known_marked j l).0 e X Y iX iY (first_met X mX) (first_met Y mY)

            known : row second.marks' j ≡ 1
            known = (b.solved.known_marked j l).1 agreed

            X : List ℕ
            X = b.solved.met.0

            image : Image n (columns - n) X
            image = b.solved.met.1

            met : MeetsAll n X (packets second)
            met = b.solved.met.2

  -- lists of the same packets, in any order and each as often as one likes
  pub same_answer : (first second : Call columns n) → Among (packets first) (packets second) → Among (packets second) (packets first) → EndAlike first second
  same_answer first second to back = go (solved_call first).answered (solved_call second).answered
    where
      -- the pivots follow from the row space, and rank and additions from the pivots
      same : pivots (reduced first) ≡ pivots (reduced second)
      same =
          let r = (solved_call first).reduced in
          let s = (solved_call second).reduced in
          same_pivots (reduced first) (reduced second) r.reduced s.reduced
          (order_and_repeats (packets first) (packets second) (reduced first) (reduced second) r.space s.space to back)

      long : (c : Call columns n) → length c.marks' ≡ n
      long c = c.marks_long ∙ (solving_passed c.rows columns n c.k c.m (length c.image) (length c.marks) (length c.room) c.passed).marked

      go : Ended first → Ended second → EndAlike first second
      go (inr a) (inr b) =
          let e : first.answer ≡ second.answer = a.answered ∙ sym b.answered in (
            alike e,
            (λ _. e),
            inl (ap outcome_of a.answered, ap outcome_of b.answered),
          )
      go (inr a) (inl b) = let m = b.solved.met in absurd (a.unmet (m.0, m.1, meets_among n m.0 (packets first) (packets second) to m.2))
      go (inl a) (inr b) = let m = a.solved.met in absurd (b.unmet (m.0, m.1, meets_among n m.0 (packets second) (packets first) back m.2))
      go (inl a) (inl b) =
          let o = one_solved (solved_alike (packets first) (packets second) to back a.solved) b.solved (long first) (long second) in
          let e : first.answer ≡ by_pivots columns first.k (figures second.answer).known (pivots (reduced second)) =
          a.answered ∙ ap₂ (by_pivots columns first.k) o.2 same in
          let f : outcome_of first.answer ≡ Ok tt = ap outcome_of e in
          let g : outcome_of second.answer ≡ Ok tt = ap outcome_of b.answered in (
            (
              f ∙ sym g,
              ap (λ (x : Result Answer Refusal). (figures x).rank) e ∙ sym (ap (λ (x : Result Answer Refusal). (figures x).rank) b.answered),
              o.2,
              ap (λ (x : Result Answer Refusal). (figures x).pivots) e ∙ sym (ap (λ (x : Result Answer Refusal). (figures x).pivots) b.answered),
            ),
            (λ s. e ∙ ap (λ (k : ℕ). by_pivots columns k (figures second.answer).known (pivots (reduced second))) s ∙ sym b.answered),
            inr (f, g, o.1, o.0),
          )
