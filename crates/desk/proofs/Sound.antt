-- An entry that is found in a bundle has a shape, as many rows as it says, and no one past its last column.
use mathlib.Core.Path.{◌≡◌, refl, sym, subst}
use mathlib.Core.List.{List}
use Prim.Native.Nat.{ℕ, ◌^◌, ◌<◌}
use native.Mathlib.Decide.{dec_lt}
use native.Mathlib.Omega.{arith}
use lib.ListN.{length}
use Rattle.gf2.specs.Rows.{row}
use Rattle.words.specs.Words.{words_of, rows_of}
use Rattle.words.proofs.Rows.{length_rows}
use Rattle.wire.specs.Kinds.{words_at}
use Rattle.std.specs.Prelude.{Ok, Err}
use Rattle.refusals.specs.Outcome.{Outcome}
use Rattle.words.proofs.Padding.{narrow_row}
use Rattle.refusals.specs.Checks.{Sized}
use Rattle.bundle.specs.Bundle.{Entry, body_words, count_of, rows_at, columns_at, kind_at, offset_at, matrix_at, bundle_checks, entry_at, meaning}
use Rattle.bundle.specs.Answers.{find}
use Rattle.bundle.proofs.Passing.{Good}
use Rattle.bundle.proofs.Meaning.{find_refused, find_entry, find_past, good_entry}

pub record Sound (e : Entry) : Type 0 where
  pub shape : Sized 512 e.rows e.columns
  pub size : length e.matrix ≡ e.rows
  pub clean : (i : ℕ) → row e.matrix i < 2 ^ e.columns

good_sound : (rule : ℕ → Outcome) (i : ℕ) (b : List ℕ) → Good rule i b → Sound (entry_at i b)
unfolding entry_at matrix_at
good_sound rule i b g = record {
  shape = g.entry.shape;
  size = length_rows (words_of (columns_at i b)) (rows_at i b) (words_at (kind_at i b) (offset_at i b) (body_words (rows_at i b) (columns_at i b)) b);
  clean = narrow_row (columns_at i b) (rows_of (words_of (columns_at i b)) (rows_at i b) (words_at (kind_at i b) (offset_at i b) (body_words (rows_at i b) (columns_at i b)) b)) g.entry.body.clean;
}

pub found_sound : (rule : ℕ → Outcome) (i : ℕ) (b : List ℕ) (e : Entry) → find i (meaning rule b) ≡ Ok e → Sound e
found_sound rule i b e f = go (bundle_checks rule b) refl
  where
    here : bundle_checks rule b ≡ Ok tt → Dec (i < count_of b) → Sound e
    here d (yes h) =
        let there = find_entry rule b (bundle_checks rule b) refl d (count_of b) refl i h in
        let same : entry_at i b ≡ e = cc (there, f) in
        subst Sound same (good_sound rule i b (good_entry rule b (bundle_checks rule b) refl d (count_of b) refl i h))
    here d (no h) = absurd (cc (find_past rule b (bundle_checks rule b) refl d (count_of b) refl i (omega arith), f))

    go : (o : Outcome) → o ≡ bundle_checks rule b → Sound e
    go (Ok t) eo = here (sym eo) (dec_lt i (count_of b))
    go (Err r) eo = absurd (cc (find_refused rule b (bundle_checks rule b) refl i r (sym eo), f))
