-- Rows held, as their length decides; and that there is an answer where the shapes fit.
use mathlib.Core.Path.{◌≡◌, refl, sym, ◌∙◌, subst}
use mathlib.Core.Bool.{Bool, true, false}
use mathlib.Core.Logic.{◌≢◌}
use mathlib.Core.List.{List}
use Prim.Native.Nat.{ℕ, ◌*◌, ◌/◌, ◌≤◌}
use native.Mathlib.Nat.{mul-zero, div-lt_iff_lt-mul}
use native.Mathlib.Omega.{arith}
use borrow.Author.Tests.{leb-true, leb-false}
use lib.Dec.{leb}
use lib.ListN.{length}
use Rattle.std.specs.Prelude.{Ok, Err, IsOk}
use Rattle.words.specs.Words.{words_of}
use Rattle.words.proofs.Padding.{holds_fits}
use Rattle.refusals.specs.Outcome.{Decides}
use Rattle.readoff.specs.ReadOff.{Reading, Decided, Holds}

module _ (rows columns w : ℕ) (m : List ℕ) (wide : columns ≤ 1024) (e : w ≡ words_of columns) where
  -- rows of no words
  pub holds_none : w ≡ 0 → Holds rows columns m
  holds_none z = record { wide = wide; held = subst (λ (x : ℕ). rows * x ≤ length m) (sym z ∙ e) (omega (arith, mul-zero rows)) }

  -- the length decides, by division
  pub holds_decides : w ≢ 0 → Decides (leb rows (length m / w)) (Holds rows columns m)
  holds_decides ne = go (leb rows (length m / w)) refl
    where
      go : (b : Bool) → leb rows (length m / w) ≡ b → Decides b (Holds rows columns m)
      go true t = record { wide = wide; held = rw e at (holds_fits rows w (length m) ne (leb-true rows (length m / w) t)) }
      go false t = λ h. omega (arith, (div-lt_iff_lt-mul {k = w} (omega arith)).0 (leb-false rows (length m / w) t), rw (← e) at h.held)

module _ (rows columns w : ℕ) (m : List ℕ) (e : w ≡ words_of columns) (h : Holds rows columns m) where
  pub rows_held : rows * w ≤ length m
  rows_held = rw e h.held

  pub words_few : w ≤ 16
  words_few = omega (arith, h.wide)

  pub columns_held : columns ≤ 64 * w
  columns_held = omega arith

pub answered : (fits : Type 0) (b : Bool) (r : Reading) → fits → Decided r fits b → IsOk r
answered fits b (Ok x) f d = refl
answered fits b (Err e) f d = absurd (d f)
