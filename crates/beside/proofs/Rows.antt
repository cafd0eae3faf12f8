-- Row after row: each row of m, with a one more in its own column past them all.
use mathlib.Core.Path.{◌≡◌, refl, sym, ap, ◌∙◌, subst}
use mathlib.Core.List.{List}
use Prim.Native.Nat.{ℕ, ◌+◌, ◌*◌, ◌^◌, ◌≤◌, ◌<◌}
use native.Mathlib.Decide.{ℕ_discrete}
use native.Mathlib.Omega.{arith}
use lib.Bits.{xor_lt}
use lib.ListN.{length, drop, set}
use lib.Pow.{pow-lt, pow_mono}
use lib.Seq.{paste, get_or-set_same, get_or-set_other}
use Rattle.gf2.specs.Rows.{◌⊕◌, row, part}
use Rattle.gf2.specs.Inverse.{adjoin}
use Rattle.gf2.proofs.Products.{is_tabulate}
use Rattle.words.specs.Words.{Fit, words_of, value, rows_of, first_words}
use Rattle.words.proofs.First.{length_first, value_first}
use Rattle.words.proofs.Parts.{length_part}
use Rattle.words.proofs.Rows.{row_end, length_rows, get_or_rows, rows_paste, rest_paste}
use Rattle.words.proofs.Value.{value_lt, part_fits}

-- w words and a one more fit v words, if neither is wider
sum_narrow : (ws : List ℕ) (v w c : ℕ) → Fit ws → length ws ≡ w → w ≤ v → c < 64 * v → value ws ⊕ 2 ^ c < 2 ^ (64 * v)
sum_narrow ws v w c fit l h k =
    let s : value ws < 2 ^ (64 * w) = subst (λ (n : ℕ). value ws < 2 ^ (64 * n)) l (value_lt ws fit) in
    xor_lt (64 * v) (value ws) (2 ^ c) (omega (arith, s, pow_mono {i = 64 * w} {j = 64 * v} (omega arith))) (pow-lt k)

-- rows 0 to i - 1 of d are those of m with their ones; what lies past all rows is as it was in d₀
pub record Adjoined (v w rows columns i : ℕ) (m d₀ d : List ℕ) : Type 0 where
  pub done : (j : ℕ) → j < i → row (rows_of v rows d) j ≡ row (rows_of w rows m) j ⊕ 2 ^ (columns + j)
  pub rest : drop (rows * v) d ≡ drop (rows * v) d₀

module _ (v w rows columns : ℕ) (m d₀ : List ℕ) where
  pub adjoined_none : Adjoined v w rows columns 0 m d₀ d₀
  adjoined_none = record { done = λ j h. absurd (omega arith); rest = refl }

  module _ (i : ℕ) (d : List ℕ) (hi : i < rows) (hd : rows * v ≤ length d) (a : Adjoined v w rows columns i m d₀ d) where
    adjoined_one : (x : ℕ) → x < 2 ^ (64 * v) → x ≡ row (rows_of w rows m) i ⊕ 2 ^ (columns + i) → Adjoined v w rows columns (i + 1) m d₀ (paste d (i * v) (first_words v x) v)
    adjoined_one x l e = record {
      done = λ j h. ap (λ (M : List ℕ). row M j) stored ∙ go j h (ℕ_discrete j i);
      rest = rest_paste v rows i d (first_words v x) hi hd (length_first v x) ∙ a.rest;
    }
      where
        stored : rows_of v rows (paste d (i * v) (first_words v x) v) ≡ set (rows_of v rows d) i x
        stored = rows_paste v rows i d (first_words v x) hi hd (length_first v x) ∙ ap (set (rows_of v rows d) i) (value_first v x l)

        go : (j : ℕ) → j < i + 1 → Dec (j ≡ i) → row (set (rows_of v rows d) i x) j ≡ row (rows_of w rows m) j ⊕ 2 ^ (columns + j)
        go j h (yes s) =
            ap (row (set (rows_of v rows d) i x)) s ∙ get_or-set_same (rows_of v rows d) i x 0 (omega (arith, length_rows v rows d)) ∙ e
            ∙ ap (λ (k : ℕ). row (rows_of w rows m) k ⊕ 2 ^ (columns + k)) (sym s)
        go j h (no s) = get_or-set_other (rows_of v rows d) i j x 0 s ∙ a.done j (omega arith)

    pub adjoined_more : (d' : List ℕ) → d' ≡ paste d (i * v) (first_words v (value (part (i * w) w m) ⊕ 2 ^ (columns + i))) v → v ≡ words_of (columns + rows) → w ≡ words_of columns
        → Fit m → rows * w ≤ length m → Adjoined v w rows columns (i + 1) m d₀ d'
    adjoined_more d' e ev ew fit hm =
        subst (Adjoined v w rows columns (i + 1) m d₀) (sym e) (adjoined_one (value (part (i * w) w m) ⊕ 2 ^ (columns + i))
        (sum_narrow (part (i * w) w m) v w (columns + i) (part_fits m (i * w) w fit) (length_part (i * w) w m (row_end m w rows i hm hi)) (omega arith) (omega arith))
        (ap (λ (x : ℕ). x ⊕ 2 ^ (columns + i)) (sym (get_or_rows w rows m i hi))))

  pub adjoined_all : (i : ℕ) (d : List ℕ) → i ≡ rows → Adjoined v w rows columns i m d₀ d → rows_of v rows d ≡ adjoin columns (rows_of w rows m)
  unfolding adjoin
  adjoined_all i d e a =
      is_tabulate (rows_of v rows d) (length (rows_of w rows m)) (λ j. row (rows_of w rows m) j ⊕ 2 ^ (columns + j)) (length_rows v rows d ∙ sym (length_rows w rows m))
      (λ j h. a.done j (omega (arith, length_rows w rows m)))
