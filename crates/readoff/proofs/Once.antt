-- What is read off leaves no choice: two outcomes that a promise allows for the same arguments are equal.
use mathlib.Core.Path.{◌≡◌, refl, sym, ap, ◌∙◌, subst}
use mathlib.Core.Bool.{Bool, true, false}
use mathlib.Core.List.{List}
use Prim.Native.Nat.{ℕ, ◌+◌, ◌-◌}
use lib.ListN.{length}
use Rattle.gf2.specs.Inverse.{begins_with_identity}
use Rattle.words.specs.Words.{words_of, rows_of}
use Rattle.images.specs.ReadOff.{has_pivot, contradictory, marked}
use Rattle.std.specs.Prelude.{Result, Ok, Err}
use Rattle.readoff.specs.declared.Unsolved.{Unsolved}
use Rattle.readoff.specs.declared.Unsolved.TheVariants as unsolved
use Rattle.readoff.specs.ReadOff.{Reading, Decided, ReadInto, Packets, RightFits, Halves, IsRefuted, RightRead, Halved, BlocksRead}

-- one answer
module _ (fits : Type 0) (b : Bool) where
  pub one_reading : (r r₂ : Reading) → Decided r fits b → Decided r₂ fits b → r ≡ r₂
  one_reading (Ok true) (Ok true) d e = refl
  one_reading (Ok false) (Ok false) d e = refl
  one_reading (Err u) (Err u₂) d e = refl
  one_reading (Ok true) (Ok false) d e = absurd (e.1 d.1)
  one_reading (Ok false) (Ok true) d e = absurd (d.1 e.1)
  one_reading (Ok true) (Err u) d e = absurd (e d.0)
  one_reading (Ok false) (Err u) d e = absurd (e d.0)
  one_reading (Err u) (Ok true) d e = absurd (d e.0)
  one_reading (Err u) (Ok false) d e = absurd (d e.0)

  -- and by it one buffer
  one_read : (r r₂ : Reading) (read x x' x₂ : List ℕ) → Decided r fits b → Decided r₂ fits b → ReadInto r read x x' → ReadInto r₂ read x x₂ → (r ≡ r₂) × (x' ≡ x₂)
  one_read r r₂ read x x' x₂ d e p q =
      let f : r ≡ r₂ = one_reading r r₂ d e in
      (f, go r₂ (subst (λ (y : Reading). ReadInto y read x x') f p) q)
    where
      go : (y : Reading) → ReadInto y read x x' → ReadInto y read x x₂ → x' ≡ x₂
      go (Ok true) p q = p ∙ sym q
      go (Ok false) p q = p ∙ sym q
      go (Err u) p q = p ∙ sym q

pub one_refutation : (rows columns n : ℕ) (m : List ℕ) (r r₂ : Reading) → IsRefuted r rows columns n m → IsRefuted r₂ rows columns n m → r ≡ r₂
one_refutation rows columns n m = one_reading (Packets rows columns n m) (contradictory n (columns - n) (rows_of (words_of columns) rows m))

pub one_right : (rows columns a e : ℕ) (m names names' names₂ : List ℕ) (r r₂ : Reading)
    → RightRead r rows columns a e m names names' → RightRead r₂ rows columns a e m names names₂ → (r ≡ r₂) × (names' ≡ names₂)
one_right rows columns a e m names names' names₂ r r₂ d g =
    one_read (RightFits rows columns e m (length names)) (has_pivot a e (rows_of (words_of columns) rows m)) r r₂ _ names names' names₂ d.0 g.0 d.1 g.1

pub one_half : (n : ℕ) (m result result' result₂ : List ℕ) (r r₂ : Reading) → Halved r n m result result' → Halved r₂ n m result result₂
    → (r ≡ r₂) × (result' ≡ result₂)
one_half n m result result' result₂ r r₂ d g =
    one_read (Halves n m (length result)) (begins_with_identity n (rows_of (words_of (n + n)) n m)) r r₂ _ result result' result₂ d.0 g.0 d.1 g.1

module _ (rows columns n : ℕ) (m unknown image marks image' marks' image₂ marks₂ : List ℕ) where
  pub one_solution : (r r₂ : Result ℕ Unsolved) → BlocksRead r rows columns n m unknown image marks image' marks'
      → BlocksRead r₂ rows columns n m unknown image marks image₂ marks₂ → (r ≡ r₂) × (image' ≡ image₂) × (marks' ≡ marks₂)
  one_solution (Ok x) (Ok y) d g =
      let t : marks' ≡ marks₂ = d.2.marks_are ∙ sym g.2.marks_are in
      (ap Ok (d.3 ∙ ap marked t ∙ sym g.3), d.2.image_is ∙ sym g.2.image_is, t)
  one_solution (Err unsolved.Contradictory) (Err unsolved.Contradictory) d g = (refl, d.2 ∙ sym g.2, d.3 ∙ sym g.3)
  one_solution (Err unsolved.Unfit) (Err unsolved.Unfit) d g = (refl, d.1 ∙ sym g.1, d.2 ∙ sym g.2)
  one_solution (Ok x) (Err unsolved.Contradictory) d g = absurd (d.1 g.1)
  one_solution (Err unsolved.Contradictory) (Ok y) d g = absurd (g.1 d.1)
  one_solution (Ok x) (Err unsolved.Unfit) d g = absurd (g.0 d.0)
  one_solution (Err unsolved.Contradictory) (Err unsolved.Unfit) d g = absurd (g.0 d.0)
  one_solution (Err unsolved.Unfit) (Ok y) d g = absurd (d.0 g.0)
  one_solution (Err unsolved.Unfit) (Err unsolved.Contradictory) d g = absurd (d.0 g.0)
