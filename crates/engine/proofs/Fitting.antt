-- The core's test of its shapes says exactly whether they fit.
use mathlib.Core.Path.{◌≡◌, sym, ap, ap₂, ◌∙◌, subst}
use mathlib.Core.Logic.{◌≢◌}
use mathlib.Core.Bool.{true}
use Rattle.std.specs.Prelude.{Ok}
use mathlib.Core.List.{List, ◌++◌}
use Prim.Native.Nat.{ℕ, ◌+◌, ◌*◌, ◌^◌, ◌≤◌, min}
use native.Mathlib.Nat.{zero-add, add-mul}
use native.Mathlib.Omega.{arith}
use lib.ListN.{length, take, drop, replicate, length-replicate, length-drop}
use lib.Seq.{drop_at, drop-drop, length-take-le, take_all}
use Rattle.gf2.specs.Additions.{additions}
use Rattle.words.specs.Words.{words_of, rows_of, holds_rows, zeroed}
use Rattle.words.proofs.Padding.{holds_exactly}
use Rattle.words.proofs.Rows.{rows_take, rows_front}
use Rattle.refusals.specs.Outcome.{Outcome, outcome_number, ◌and_then◌}
use Rattle.refusals.proofs.Chain.{Passes, done_then}
use Rattle.refusals.specs.Checks.{bad_columns, bad_k, short_room}
use Rattle.refusals.proofs.Passed.{columns_done, done_columns, window_done, done_window, room_done, done_room}
use Rattle.engine.specs.declared.Eliminated.{Eliminated}
use Rattle.engine.specs.Core.{Fits, ReducedTo, OneRoom}
use Rattle.engine.specs.Stage.{Reduces}

-- the checks of numbers
abbrev pub checks : ℕ → ℕ → ℕ → ℕ → Outcome
checks columns k more room = bad_columns columns and_then bad_k k and_then short_room more k columns room

module _ (rows columns k more room list : ℕ) (m : List ℕ) where
  -- each check passes where the shapes fit, and all of them give the shapes
  pub right_columns : Fits rows columns k more room list m → Passes (bad_columns columns)
  right_columns f = done_columns columns f.shape.sized.some f.shape.sized.wide

  pub right_k : Fits rows columns k more room list m → Passes (bad_k k)
  right_k f = done_window k f.table.window

  pub enough_room : Fits rows columns k more room list m → Passes (short_room more k columns room)
  enough_room f = done_room more k columns room f.table.roomy

  fits_checks : Fits rows columns k more room list m → Passes (checks columns k more room)
  fits_checks f = done_then (done_then (right_columns f) (right_k f)) (enough_room f)

  pub wrong_shape : {o : Outcome} → o ≡ checks columns k more room → outcome_number o ≢ 0 → Fits rows columns k more room list m → ⊥
  wrong_shape e h f = h (ap outcome_number (e ∙ fits_checks f))

  pub clean_rows : Fits rows columns k more room list m → holds_rows rows columns m ≡ true
  clean_rows f = (holds_exactly rows columns m).1 (f.shape.held, f.shape.clean)

  pub right_shape : Passes (bad_columns columns) → Passes (bad_k k) → Passes (short_room more k columns room) → rows ≤ min list 1024
      → holds_rows rows columns m ≡ true → Fits rows columns k more room list m
  right_shape wide narrow roomy few clean =
      let d = columns_done columns wide in
      let h = (holds_exactly rows columns m).0 clean in
      record {
        shape = record { sized = record { few = omega arith; some = d.0; wide = d.1 }; listed = omega arith; held = h.0; clean = h.1 };
        table = record { window = window_done k narrow; roomy = room_done more k columns room roomy };
      }

-- ---- what is left, in the words of the promise

module _ {rows columns k w : ℕ} (e : w ≡ words_of columns) where
  pub table_fits : {room list : ℕ} {m : List ℕ} → Fits rows columns k 0 room list m → 2 ^ k * w ≤ room
  table_fits f = rw e (rw (zero-add (2 ^ k)) at f.table.roomy)

  pub room_fits : {room list : ℕ} {m : List ℕ} → Fits rows columns k rows room list m → (rows + 2 ^ k) * w ≤ room
  room_fits f = rw e f.table.roomy

  pub rows_fit : {more room list : ℕ} {m : List ℕ} → Fits rows columns k more room list m → rows * w ≤ length m
  rows_fit f = rw e f.shape.held

-- in one room: the words of the matrix, and those behind them, where the table is
module _ {rows columns k list w : ℕ} {m front back : List ℕ} (f : Fits rows columns k rows (length m) list m) (width : w ≡ words_of columns)
    (front_is : front ≡ take (rows * w) m) (back_is : back ≡ drop (rows * w) m) where
  room : (rows + 2 ^ k) * w ≤ length m
  room = rw width f.table.roomy

  front_rows : rows_of (words_of columns) rows front ≡ rows_of (words_of columns) rows m
  front_rows = rw (front_is, width) (rows_take (words_of columns) rows m)

  pub parts_fit : Fits rows columns k 0 (length back) list front
  parts_fit = record {
    shape = record {
      sized = f.shape.sized;
      listed = f.shape.listed;
      held = rw (← width, front_is, length-take-le (rows * w) m (omega (arith, room, add-mul rows (2 ^ k) w))) (omega arith);
      clean = λ i. rw front_rows (f.shape.clean i);
    };
    table = record {
      window = f.table.window;
      roomy = rw (← width, back_is, zero-add (2 ^ k)) (omega (arith, room, length-drop (rows * w) m, add-mul rows (2 ^ k) w));
    };
  }

  -- the table's words are zero, and what lies past them is as it was
  zeros_behind : zeroed 0 (2 ^ k * w) back ≡ replicate (2 ^ k * w) 0 ++ drop ((rows + 2 ^ k) * w) m
  zeros_behind =
      let Z : List ℕ = replicate (2 ^ k * w) 0 in
      ap (λ (i : ℕ). take (2 ^ k * w) Z ++ drop i back) (zero-add (2 ^ k * w))
      ∙ ap₂ (λ (x y : List ℕ). x ++ y) (take_all (2 ^ k * w) Z (omega (arith, length-replicate {A = ℕ} (2 ^ k * w) 0)))
      (ap (drop (2 ^ k * w)) back_is ∙ drop-drop (2 ^ k * w) (rows * w) m ∙ ap (λ (i : ℕ). drop i m) (sym (add-mul rows (2 ^ k) w)))

  pub one_done : {r : Eliminated} {m' t' list' : List ℕ} (pivots : List ℕ) → length pivots ≡ list → length m' ≡ length front → Reduces r rows columns k front back m' t' list'
      → OneRoom (Ok r) rows columns k m pivots (m' ++ t') list'
  one_done {r = r} {m' = m'} {t' = t'} {list' = list'} pivots same long R =
      let W : ℕ = words_of columns in
      let size : length m' ≡ rows * w = long ∙ ap length front_is ∙ length-take-le (rows * w) m (omega (arith, room, add-mul rows (2 ^ k) w)) in
      let size' : length m' ≡ rows * W = size ∙ ap (λ (x : ℕ). rows * x) width in (
        rw same f,
        (
          subst (λ (L : List ℕ). ReducedTo (additions k columns) L (rows_of W rows (m' ++ t')) r list') front_rows
              (rw (rows_front W rows m' t' (omega (arith, size'))) R.matrix),
          drop_at m' t' (rows * W) size' ∙ R.table
              ∙ subst (λ (x : ℕ). zeroed 0 (2 ^ k * x) back ≡ replicate (2 ^ k * x) 0 ++ drop ((rows + 2 ^ k) * x) m) width zeros_behind,
        ),
      )
