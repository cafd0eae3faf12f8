-- The writer's checks refuse nothing exactly if what passing means holds; and each of their answers.
use mathlib.Core.Path.{◌≡◌, refl, sym, ap, ◌∙◌}
use mathlib.Core.Bool.{not}
use mathlib.Core.List.{List, [], ◌∷◌}
use mathlib.Core.Logic.{◌≢◌}
use Prim.Native.Nat.{ℕ, ◌≤◌}
use lib.ListN.{length}
use borrow.Author.Tests.{not-false, le-ltb, eq-eqb, ne_eqb}
use Rattle.std.specs.Prelude.{Ok}
use Rattle.words.specs.Words.{Fit}
use Rattle.refusals.specs.Outcome.{Outcome, ◌and_then◌, first}
use Rattle.refusals.proofs.Chain.{Passes, then_done, done_then, passing, passed}
use Rattle.refusals.proofs.Passed.{if_done, done_if, same_done, done_same}
use Rattle.bundle.specs.Bundle.{bad_shape}
use Rattle.bundle.proofs.Passing.{most_done, done_most, some_done, done_some}
use Rattle.pack.specs.Writing.{given, shapes_checks, all_words, all_narrow, bundle_bytes, rest_order, write_order, write_checks, Writable}
use Rattle.pack.specs.Steps.{any_kind, Checked}

-- shapes that pass under a rule pass whatever the kinds
pub shapes_any : (rule : ℕ → Outcome) (ks rs cs : List ℕ) → Passes (shapes_checks rule ks rs cs) → Passes (shapes_checks any_kind ks rs cs)
unfolding shapes_checks
shapes_any rule [] rs cs e = refl
shapes_any rule (k ∷ ks) [] cs e = refl
shapes_any rule (k ∷ ks) (r ∷ rs) [] e = refl
shapes_any rule (k ∷ ks) (r ∷ rs) (c ∷ cs) e =
    let s = then_done (rule k and_then bad_shape r c) (shapes_checks rule ks rs cs) e in
    done_then (then_done (rule k) (bad_shape r c) s.0).1 (shapes_any rule ks rs cs s.1)

module _ (rule : ℕ → Outcome) (ks rs cs ws : List ℕ) (room : ℕ) where
  pub checked : Writable rule ks rs cs ws room → Fit ws → Checked ks rs cs ws
  checked w f = record { rows_too = w.rows_too; columns_too = w.columns_too; few = w.few; shapes = shapes_any rule ks rs cs w.shapes; words_fit = w.words_fit; fit = f }

  abbrev size : ℕ
  size = bundle_bytes (length ks) (length ws)

  pub writable : Passes (write_checks rule ks rs cs ws room) → Writable rule ks rs cs ws room
  unfolding write_order rest_order
  writable =
      passed (write_order rule ks rs cs ws room) (λ rows columns any few shapes rest.
      passed (rest_order ks rs cs ws room) (λ words clean short fits. record {
        rows_too = same_done _ (length rs) (length ks) rows;
        columns_too = same_done _ (length cs) (length ks) columns;
        any = some_done _ (length ks) any;
        few = most_done _ 64 (length ks) few;
        shapes = shapes;
        words_fit = sym (same_done _ (length ws) (all_words rs cs) words);
        clean = not-false _ (if_done (not (all_narrow (given ks rs cs ws))) _ clean);
        short = most_done _ 65535 size short;
        fits = most_done _ room size fits;
      }) rest)

  pub write_passes : Writable rule ks rs cs ws room → Passes (write_checks rule ks rs cs ws room)
  unfolding write_order rest_order
  write_passes w =
      passing (write_order rule ks rs cs ws room)
      (done_same _ (length rs) (length ks) w.rows_too)
      (done_same _ (length cs) (length ks) w.columns_too)
      (done_some _ (length ks) w.any)
      (done_most _ 64 (length ks) w.few)
      w.shapes
      (passing (rest_order ks rs cs ws room)
      (done_same _ (length ws) (all_words rs cs) (sym w.words_fit))
      (done_if _ (ap not w.clean))
      (done_most _ 65535 size w.short)
      (done_most _ room size w.fits))

-- the checks before the rest have passed, and the rest decides
pub write_goes : (rule : ℕ → Outcome) (ks rs cs ws : List ℕ) (room : ℕ) (o v : Outcome) → length rs ≡ length ks → length cs ≡ length ks → length ks ≢ 0 → length ks ≤ 64
    → o ≡ shapes_checks rule ks rs cs → o ≡ Ok tt → v ≡ first (rest_order ks rs cs ws room) → v ≡ write_checks rule ks rs cs ws room
unfolding write_order
write_goes rule ks rs cs ws room o v er ec ne few eo z e =
    e ∙ simp (eq-eqb (length rs) (length ks) er, eq-eqb (length cs) (length ks) ec, ne_eqb (length ks) 0 ne, le-ltb 64 (length ks) few, ← eo, z)
