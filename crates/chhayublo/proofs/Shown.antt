-- The row view by the part x that the inner call shows: its length tells whether there is a row, as a row has a word.
use mathlib.Core.Path.{◌≡◌, refl, ap, ap₂, ◌∙◌}
use Rattle.std.specs.Prelude.{Ok, Err}
use mathlib.Core.List.{List}
use Prim.Native.Nat.{ℕ, ◌*◌, ◌+◌, ◌≤◌, ◌<◌}
use native.Mathlib.Nat.{mul-zero}
use native.Mathlib.Omega.{arith}
use lib.ListN.{length}
use Rattle.gf2.specs.Rows.{part}
use Rattle.words.specs.Words.{words_of}
use Rattle.words.proofs.Parts.{length_part}
use Rattle.words.proofs.Rows.{row_ends}
use Rattle.refusals.specs.declared.Refusal.{Refusal}
use Rattle.refusals.specs.Outcome.{Outcome}
use Rattle.refusals.specs.Checks.{view_checks}
use Rattle.refusals.proofs.Passed.{view_passed}
use Rattle.matrix.specs.Calls.{viewed, viewed_from, row_view}
use Rattle.chhayublo.specs.declared.SeenRow.{SeenRow}

-- r is the part that is shown, and the words there are its words
abbrev Sees : ℕ → List ℕ → Outcome → ℕ → SeenRow → Type 0
Sees i m o w r =
    (r ≡ record { start = viewed_from o i w; words = length (viewed o i w m) })
    × (part r.start r.words m ≡ viewed o i w m)

module _ (rows columns i : ℕ) (m x : List ℕ) (e : x ≡ row_view rows columns i m) where
  ends : view_checks rows columns (length m) i ≡ Ok tt → i * words_of columns + words_of columns ≤ length m
  ends f =
      let p = view_passed rows columns (length m) i f in
      omega (arith, row_ends i rows (words_of columns) p.below, p.exact)

  some : view_checks rows columns (length m) i ≡ Ok tt → 0 < words_of columns
  some f =
      let h = (view_passed rows columns (length m) i f).sized.some in
      omega (arith, h)

  shows : view_checks rows columns (length m) i ≡ Ok tt → x ≡ part (i * words_of columns) (words_of columns) m
  shows f = e ∙ ap (λ (o : Outcome). viewed o i (words_of columns) m) f

  length_shown : view_checks rows columns (length m) i ≡ Ok tt → length x ≡ words_of columns
  length_shown f = ap length (shows f) ∙ length_part (i * words_of columns) (words_of columns) m (ends f)

  none : {r : Refusal} → view_checks rows columns (length m) i ≡ Err r → length x ≡ 0
  none f = ap length (e ∙ ap (λ (o : Outcome). viewed o i (words_of columns) m) f)

  pub view_none : length x ≡ 0 → Sees i m (view_checks rows columns (length m) i) (words_of columns) (record { start = 0; words = 0 })
  view_none z = go (view_checks rows columns (length m) i) refl
    where
      go : (o : Outcome) → view_checks rows columns (length m) i ≡ o → Sees i m o (words_of columns) (record { start = 0; words = 0 })
      go (Err r) f = (refl, refl)
      go (Ok _) f = absurd (omega (arith, some f, length_shown f))

  pub view_some : (length x ≡ 0 → ⊥) → Sees i m (view_checks rows columns (length m) i) (words_of columns) (record { start = i * length x; words = length x })
  view_some z = go (view_checks rows columns (length m) i) refl
    where
      seen : ℕ → ℕ → SeenRow
      seen a w = record { start = a; words = w }

      go : (o : Outcome) → view_checks rows columns (length m) i ≡ o → Sees i m o (words_of columns) (seen (i * length x) (length x))
      go (Err r) f = absurd (z (none f))
      go (Ok _) f = (
        ap₂ seen (ap (λ (w : ℕ). i * w) (length_shown f)) (ap length (shows f)),
        ap (λ (w : ℕ). part (i * w) w m) (length_shown f),
      )

  -- the row's first word lies in the buffer, or is word 0
  pub view_start : i * length x ≤ length m
  view_start = go (view_checks rows columns (length m) i) refl
    where
      go : (o : Outcome) → view_checks rows columns (length m) i ≡ o → i * length x ≤ length m
      go (Err r) f =
          let z : i * length x ≡ 0 = ap (λ (w : ℕ). i * w) (none f) ∙ mul-zero i in
          omega (arith, z)
      go (Ok _) f =
          let l : i * length x ≡ i * words_of columns = ap (λ (w : ℕ). i * w) (length_shown f) in
          omega (arith, ends f, l)
