-- Of a matrix with clean padding the words that are read off hold all of what is read: its numbers are found again in them.
use mathlib.Core.Path.{◌≡◌, sym, ap, ap₂, ◌∙◌}
use mathlib.Core.List.{List}
use Prim.Native.Nat.{ℕ, ◌+◌, ◌-◌, ◌*◌, ◌/◌, ◌^◌, ◌≤◌, ◌<◌}
use native.Mathlib.Omega.{arith}
use lib.ListN.{length, length-map}
use lib.Pow.{pow_pos, pow_mono, shr_lt}
use Rattle.gf2.specs.Rows.{row, tabulate}
use Rattle.gf2.specs.Inverse.{right_of}
use Rattle.gf2.proofs.Inverse.{right_row}
use Rattle.gf2.proofs.Products.{tabulate_length, tabulate_each}
use Rattle.words.specs.Words.{value, words_of, rows_of, Clean, first_words, flat}
use Rattle.words.proofs.First.{value_first}
use Rattle.words.proofs.Flat.{rows_flat}
use Rattle.words.proofs.Rows.{length_rows}
use Rattle.images.specs.ReadOff.{pivot_row, shown}
use Rattle.images.proofs.Narrow.{right_narrow, found_narrow, shown_narrow}
use Rattle.readoff.specs.ReadOff.{Shown}

-- what is no wider than p columns fits the words of p columns
fits_words : (p x : ℕ) → x < 2 ^ p → x < 2 ^ (64 * words_of p)
fits_words p x h = omega (arith, pow_mono {i = p} {j = 64 * words_of p} (omega arith))

-- rows that fit are found again
flat_again : (v n : ℕ) (M m : List ℕ) → length M ≡ n → ((i : ℕ) → row M i < 2 ^ (64 * v)) → m ≡ flat v M → rows_of v n m ≡ M
flat_again v n M m l h e = ap₂ (rows_of v) (sym l) e ∙ rows_flat v M h

module _ (rows columns : ℕ) (m : List ℕ) (clean : Clean rows columns m) where
  abbrev R : List ℕ
  R = rows_of (words_of columns) rows m

  pub right_number : (a e : ℕ) (names' : List ℕ) → e ≤ columns → names' ≡ first_words (words_of (columns - e)) (pivot_row a e (rows_of (words_of columns) rows m) / 2 ^ e)
      → value names' ≡ pivot_row a e (rows_of (words_of columns) rows m) / 2 ^ e
  right_number a e names' h s =
      ap value s
      ∙ value_first (words_of (columns - e)) (pivot_row a e R / 2 ^ e) (fits_words (columns - e) (pivot_row a e R / 2 ^ e) (right_narrow columns e (pivot_row a e R) h (found_narrow columns R clean a e)))

  module _ (unknown n : ℕ) (h : n ≤ columns) (small : unknown < 2 ^ (columns - n)) where
    pub image_rows : (image marks : List ℕ) → Shown unknown n (words_of (columns - n)) (rows_of (words_of columns) rows m) image marks
        → rows_of (words_of (columns - n)) n image ≡ tabulate n (shown unknown n (rows_of (words_of columns) rows m))
    image_rows image marks s =
        flat_again (words_of (columns - n)) n (tabulate n (shown unknown n R)) image (tabulate_length n (shown unknown n R)) fits s.image_is
      where
        fits : (i : ℕ) → row (tabulate n (shown unknown n R)) i < 2 ^ (64 * words_of (columns - n))
        fits =
            tabulate_each (λ (x : ℕ). x < 2 ^ (64 * words_of (columns - n))) n (shown unknown n R) (pow_pos (64 * words_of (columns - n)))
            (λ j l. fits_words (columns - n) (shown unknown n R j) (shown_narrow columns R clean unknown n h small j))

pub half_rows : (n : ℕ) (m result' : List ℕ) → Clean n (n + n) m → result' ≡ flat (words_of n) (right_of n (rows_of (words_of (n + n)) n m))
    → rows_of (words_of n) n result' ≡ right_of n (rows_of (words_of (n + n)) n m)
half_rows n m result' clean s = flat_again (words_of n) n (right_of n M) result' (length-map M (λ u. u / 2 ^ n) ∙ length_rows (words_of (n + n)) n m) fits s
  where
    M : List ℕ
    M = rows_of (words_of (n + n)) n m

    fits : (i : ℕ) → row (right_of n M) i < 2 ^ (64 * words_of n)
    fits i = rw (right_row n M i) (fits_words n (row M i / 2 ^ n) (shr_lt n n (clean i)))
