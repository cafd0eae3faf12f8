-- The promise leaves no choice: two rooms that it allows for the same arguments are equal, word for word.
use mathlib.Core.Path.{◌≡◌, refl, sym, ◌∙◌}
use mathlib.Core.List.{List}
use Prim.Native.Nat.{ℕ, ◌+◌, ◌^◌}
use native.Mathlib.Nat.{add-mul}
use native.Mathlib.Omega.{arith}
use Rattle.std.specs.Prelude.{Result, Ok, Err}
use Rattle.gf2.proofs.Reduced.{one_reduced_form}
use Rattle.words.specs.Words.{Slice, words_of}
use Rattle.words.proofs.Slices.{same_words}
use Rattle.refusals.specs.declared.Unfit.{Unfit}
use Rattle.beside.specs.Beside.{BesideReduced}

module _ (rows columns k : ℕ) (m room room' room₂ : List ℕ) (s : Slice room room') (s₂ : Slice room room₂) where
  pub one_room : (r r₂ : Result (Unit {0}) Unfit) → BesideReduced r rows columns k m room room' → BesideReduced r₂ rows columns k m room room₂ → (r ≡ r₂) × (room' ≡ room₂)
  one_room (Ok a) (Ok b) d g =
      let w : ℕ = words_of (columns + rows) in
      let roomy = d.0.roomy in
      let e = add-mul rows (2 ^ k) w in (
        refl,
        same_words w rows room' room₂ s.fit s₂.fit (omega (arith, roomy, e, s.size)) (omega (arith, roomy, e, s₂.size)) (one_reduced_form d.1.form g.1.form)
            (d.1.behind ∙ sym g.1.behind),
      )
  one_room (Err u) (Err u₂) d g = (refl, d.1 ∙ sym g.1)
  one_room (Ok a) (Err u) d g = absurd (g.0 d.0)
  one_room (Err u) (Ok a) d g = absurd (d.0 g.0)
