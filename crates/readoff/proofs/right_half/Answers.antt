-- The left half is tested, and the right half is copied.
use mathlib.Core.Path.{◌≡◌, refl, sym, ap, ap₂, ◌∙◌, subst}
use Prim.Native.Nat.{ℕ}
use native.Mathlib.Omega.{arith}
use borrow.Author.Rules.{rules}
use lib.Dec.{T}
use lib.ListN.{length}
use Rattle.gf2.specs.Inverse.{begins_with_identity, right_of}
use Rattle.words.specs.Words.{flat}
use Rattle.words.proofs.Rows.{length_rows}
use Rattle.readoff.proofs.right_half.Goals as goal

pub returns-then-not-begins_with_identity : goal.returns-then-not-begins_with_identity
returns-then-not-begins_with_identity c =
    let g = c.args in
    let m = c.in_ok-m in
    let n : length m.m ≡ g.n = ap length m.ensures.1 ∙ length_rows _ g.n g.m.now in
    let e = c.if-not-begins_with_identity.ensures ∙ ap (λ (k : ℕ). begins_with_identity k m.m) n in
    rw (← m.ensures.1) ((record { matrix = m.ensures.0; fitting = search rules }, λ t. subst T (sym e) t), refl)

pub right-requires : goal.right-requires
right-requires c =
    let g = c.args in
    let m = c.in_ok-m in
    let n : length m.m ≡ g.n = ap length m.ensures.1 ∙ length_rows _ g.n g.m.now in
    (omega arith, omega arith, rw n c.if-res-n.false)

pub returns : goal.returns
returns c =
    let g = c.args in
    let m = c.in_ok-m in
    let n : length m.m ≡ g.n = ap length m.ensures.1 ∙ length_rows _ g.n g.m.now in
    let e = c.if-not-begins_with_identity.ensures ∙ ap (λ (k : ℕ). begins_with_identity k m.m) n in
    rw (← m.ensures.1) (
      (record { matrix = m.ensures.0; fitting = search rules }, subst T e tt),
      c.right.ensures ∙ ap₂ (λ (v k : ℕ). flat v (right_of k m.m)) c.per_row-v.ensures n,
    )
