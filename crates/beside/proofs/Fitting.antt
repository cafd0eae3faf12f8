-- The test of the shapes says exactly whether they fit; where they do, so do those of the core.
use mathlib.Core.Path.{◌≡◌, refl, sym, ap, ◌∙◌, subst}
use mathlib.Core.Bool.{true, not}
use mathlib.Core.List.{List, ◌++◌}
use Prim.Native.Nat.{ℕ, ◌+◌, ◌*◌, ◌^◌, ◌≤◌, ◌<◌}
use native.Mathlib.Nat.{add-mul}
use native.Mathlib.Omega.{arith}
use lib.ListN.{length, drop, replicate}
use lib.Seq.{drop-drop}
use Rattle.std.specs.Prelude.{Result, Ok, Err, IsOk}
use Rattle.gf2.specs.Rows.{row}
use Rattle.gf2.specs.Inverse.{adjoin}
use Rattle.gf2.proofs.Adjoin.{adjoin_narrow}
use Rattle.words.specs.Words.{words_of, rows_of, holds_rows}
use Rattle.words.proofs.Rows.{length_rows}
use Rattle.words.proofs.Padding.{holds_exactly}
use Rattle.refusals.specs.declared.Unfit.{Unfit}
use Rattle.refusals.specs.Checks.{dirty_padding}
use Rattle.refusals.proofs.Chain.{Passes, passed, passing}
use Rattle.refusals.proofs.Passed.{not-false, if_done, done_if, sizes_done, done_sizes, wide_done, done_wide, window_done, done_window, room_done, done_room}
use Rattle.engine.specs.declared.Eliminated.{Eliminated}
use Rattle.engine.specs.Core.{Fits, OneRoom}
use Rattle.beside.specs.Beside.{FitsBeside, beside_order, beside_checks, BesideReduced}

-- ---- the checks

module _ (rows columns k : ℕ) (m : List ℕ) (room : ℕ) where
  holds_done : Passes (dirty_padding rows columns m) → holds_rows rows columns m ≡ true
  unfolding dirty_padding
  holds_done e = not-false (holds_rows rows columns m) (if_done (not (holds_rows rows columns m)) _ e)

  done_holds : holds_rows rows columns m ≡ true → Passes (dirty_padding rows columns m)
  unfolding dirty_padding
  done_holds e = done_if _ (ap not e)

  pub checks_passed : Passes (beside_checks rows columns k m room) → FitsBeside rows columns k m room
  checks_passed =
      passed (beside_order rows columns k m room) (λ sizes wide window short clean. record {
        sized = sizes_done rows columns sizes;
        wide = wide_done columns rows wide;
        window = window_done k window;
        roomy = room_done rows k (columns + rows) room short;
        held = ((holds_exactly rows columns m).0 (holds_done clean)).0;
        clean = ((holds_exactly rows columns m).0 (holds_done clean)).1;
      })

  pub passes_checks : FitsBeside rows columns k m room → Passes (beside_checks rows columns k m room)
  passes_checks f =
      passing (beside_order rows columns k m room)
      (done_sizes rows columns f.sized)
      (done_wide columns rows f.wide)
      (done_window k f.window)
      (done_room rows k (columns + rows) room f.roomy)
      (done_holds ((holds_exactly rows columns m).1 (f.held, f.clean)))

-- ---- the reduction of the matrix beside the identity

module _ (rows columns k : ℕ) (m room : List ℕ) (f : FitsBeside rows columns k m (length room)) where
  abbrev v : ℕ
  v = words_of (columns + rows)

  rows_fit : rows * v ≤ length room
  rows_fit = omega (arith, f.roomy, add-mul rows (2 ^ k) v)

  pub adjoin_fits : (columns + rows ≤ 1024) × (rows * words_of (columns + rows) ≤ length room) × (rows * words_of columns ≤ length m)
  adjoin_fits = (f.wide, rows_fit, f.held)

  module _ (room₁ : List ℕ) (same : length room₁ ≡ length room) (made : rows_of (words_of (columns + rows)) rows room₁ ≡ adjoin columns (rows_of (words_of columns) rows m))
      (rest : drop (rows * words_of (columns + rows)) room₁ ≡ drop (rows * words_of (columns + rows)) room) (list : List ℕ) (h : 512 ≤ length list) where
    core_fits : Fits rows (columns + rows) k rows (length room₁) (length list) room₁
    core_fits =
        let L : List ℕ = rows_of (words_of columns) rows m in
        record {
          shape = record {
            sized = record { few = omega (arith, f.sized.few); some = omega (arith, f.sized.some); wide = f.wide };
            listed = omega (arith, f.sized.few);
            held = omega (arith, rows_fit);
            clean = λ i. rw made (subst (λ (n : ℕ). row (adjoin columns L) i < 2 ^ (columns + n)) (length_rows (words_of columns) rows m) (adjoin_narrow columns L f.clean i));
          };
          table = record { window = f.window; roomy = rw same f.roomy };
        }

    -- what lies past the table
    further : drop ((rows + 2 ^ k) * v) room₁ ≡ drop ((rows + 2 ^ k) * v) room
    further =
        subst (λ (n : ℕ). drop n room₁ ≡ drop n room) (sym (add-mul rows (2 ^ k) v))
        (sym (drop-drop (2 ^ k * v) (rows * v) room₁) ∙ ap (drop (2 ^ k * v)) rest ∙ drop-drop (2 ^ k * v) (rows * v) room)

    -- the core takes these rows, and they are those of the matrix beside the identity
    pub core_beside : (r : Result Eliminated Unfit) (list' room' : List ℕ) → OneRoom r rows (columns + rows) k room₁ list room' list'
        → IsOk r × BesideReduced (Ok tt) rows columns k m room room'
    core_beside (Ok d) list' room' o =
        (refl, (f, record { form = rw made at o.1.0.form; behind = o.1.1 ∙ ap (λ (l : List ℕ). replicate (2 ^ k * v) 0 ++ l) further }))
    core_beside (Err e) list' room' o = absurd (o.0 core_fits)
