-- What solving promises of images leaves no choice, and depends on which images meet the packets alone.
use mathlib.Core.Path.{◌≡◌, sym, ap, ◌∙◌}
use mathlib.Core.Logic.{◌⊎◌, inl, inr}
use Rattle.std.specs.Prelude.{Result}
use mathlib.Core.List.{List}
use Prim.Native.Nat.{ℕ, ◌<◌}
use native.Mathlib.Decide.{ℕ_discrete}
use native.Mathlib.Omega.{arith}
use lib.ListN.{length}
use lib.Seq.{ext_get_or}
use Rattle.gf2.specs.Rows.{row}
use Rattle.images.specs.Packets.{MeetsAll, Agreed, Among}
use Rattle.images.specs.ReadOff.{marked}
use Rattle.images.proofs.Meeting.{meets_among}
use Rattle.refusals.specs.Outcome.{outcome_of}
use Rattle.refusals.specs.declared.Refusal.{Refusal}
use Rattle.matrix.specs.declared.Answer.{Answer}
use Rattle.matrix.specs.Calls.{figures}
use Rattle.packets.specs.Solving.{Alike, Solved}

-- equal answers are alike
pub alike : {r r₂ : Result Answer Refusal} → r ≡ r₂ → Alike r r₂
alike e = (ap outcome_of e, ap (λ (x : Result Answer Refusal). (figures x).rank) e, ap (λ (x : Result Answer Refusal). (figures x).known) e, ap (λ (x : Result Answer Refusal). (figures x).pivots) e)

-- each block is marked 1 or 0
mark_cases : {unknown n p : ℕ} {L image marks : List ℕ} {known : ℕ} → Solved unknown n p L image marks known → (j : ℕ) → j < n → (row marks j ≡ 1) ⊎ (row marks j ≡ 0)
mark_cases {marks = marks} s j l = go (ℕ_discrete (row marks j) 1)
  where
    go : Dec (row marks j ≡ 1) → (row marks j ≡ 1) ⊎ (row marks j ≡ 0)
    go (yes e) = inl e
    go (no ne) = inr ((s.unknown_marked j l).1 (λ a. ne ((s.known_marked j l).1 a)))

module _ {unknown n p : ℕ} {L image marks image₂ marks₂ : List ℕ} {known known₂ : ℕ} (s : Solved unknown n p L image marks known) (t : Solved unknown n p L image₂ marks₂ known₂) where
  one_block : (j : ℕ) → j < n → (row marks j ≡ row marks₂ j) × (row image j ≡ row image₂ j)
  one_block j l = go (mark_cases s j l)
    where
      go : (row marks j ≡ 1) ⊎ (row marks j ≡ 0) → (row marks j ≡ row marks₂ j) × (row image j ≡ row image₂ j)
      go (inl e) =
          let e₂ : row marks₂ j ≡ 1 = (t.known_marked j l).1 ((s.known_marked j l).0 e) in
          let m = s.met in
          (e ∙ sym e₂, s.contents j l e m.0 m.1 m.2 ∙ sym (t.contents j l e₂ m.0 m.1 m.2))
      go (inr e) =
          let e₂ : row marks₂ j ≡ 0 = (t.unknown_marked j l).1 ((s.unknown_marked j l).0 e) in
          (e ∙ sym e₂, s.unknowns j l e ∙ sym (t.unknowns j l e₂))

  pub one_solved : length marks ≡ n → length marks₂ ≡ n → (image ≡ image₂) × (marks ≡ marks₂) × (known ≡ known₂)
  one_solved l l₂ =
      let e : marks ≡ marks₂ = ext_get_or 0 marks marks₂ (l ∙ sym l₂) (λ j h. (one_block j (omega arith)).0) in
      let size : length image ≡ n = s.padding_zero.size in
      (ext_get_or 0 image image₂ (size ∙ sym t.padding_zero.size) (λ j h. (one_block j (omega arith)).1), e, s.counted ∙ ap marked e ∙ sym t.counted)

-- the same packets are met by the same images
pub solved_alike : {unknown n p : ℕ} {image marks : List ℕ} {known : ℕ} (L M : List ℕ) → Among L M → Among M L → Solved unknown n p L image marks known → Solved unknown n p M image marks known
solved_alike {n = n} {p = p} L M to back s = record {
  met = (s.met.0, s.met.1, there s.met.0 s.met.2);
  known_marked = λ j l. ((λ e. over j ((s.known_marked j l).0 e)), λ a. (s.known_marked j l).1 (under j a));
  unknown_marked = λ j l. ((λ e a. (s.unknown_marked j l).0 e (under j a)), λ k. (s.unknown_marked j l).1 (λ a. k (over j a)));
  contents = λ j l e X i h. s.contents j l e X i (here X h);
  unknowns = s.unknowns;
  padding_zero = s.padding_zero;
  counted = s.counted;
}
  where
    here : (X : List ℕ) → MeetsAll n X M → MeetsAll n X L
    here X = meets_among n X L M to

    there : (X : List ℕ) → MeetsAll n X L → MeetsAll n X M
    there X = meets_among n X M L back

    over : (j : ℕ) → Agreed n p L j → Agreed n p M j
    over j a X Y iX iY mX mY = a X Y iX iY (here X mX) (here Y mY)

    under : (j : ℕ) → Agreed n p M j → Agreed n p L j
    under j a X Y iX iY mX mY = a X Y iX iY (there X mX) (there Y mY)
