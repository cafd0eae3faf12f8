-- What a further row says: of the block of its pivot whether it is known, and of the others nothing.
use mathlib.Core.Path.{◌≡◌, refl, sym, ap, ap₂, ◌∙◌}
use mathlib.Core.Logic.{◌≢◌}
use mathlib.Core.Bool.{Bool, true, false, cond}
use mathlib.Core.List.{List, [], ◌∷◌}
use Prim.Native.Nat.{ℕ, suc, ◌+◌, ◌-◌, ◌*◌, ◌/◌, ◌%◌, ◌^◌, ◌≤◌, ◌<◌}
use native.Mathlib.Decide.{ℕ_discrete, dec_lt}
use native.Mathlib.Nat.{zero-mod}
use native.Mathlib.Omega.{arith}
use borrow.Author.Tests.{ne_eqb}
use lib.Dec.{eqb}
use lib.ListN.{length, get_or, take, drop, set, length-set, get_or-eq_default, drop_of_length-le}
use lib.Pow.{pow_pos}
use lib.Seq.{paste, length-take-le, get_or-set_same, get_or-set_other, drop-cons}
use Rattle.std.specs.Prelude.{count_by}
use Rattle.std.proofs.lemmas.Bool.Decides.{nat_tests}
use Rattle.std.proofs.lemmas.List.Sums.{sum_by-cons}
use Rattle.gf2.specs.Rows.{part, one_if, tabulate}
use Rattle.gf2.proofs.Products.{tabulate_row, tabulate_length, is_tabulate}
use Rattle.words.specs.Words.{Fit, value, first_words, rows_of}
use Rattle.words.proofs.First.{words_first, take_first, length_first, get_or_first, value_word}
use Rattle.words.proofs.Flat.{length_flat}
use Rattle.words.proofs.Value.{fit_take}
use Rattle.words.proofs.Parts.{paste_more}
use Rattle.words.proofs.Rows.{length_rows, get_or_rows}
use Rattle.images.specs.ReadOff.{inside, pivot_row, known, content, shown, mark, marked}
use Rattle.readoff.specs.ReadOff.{Shown}
use Rattle.readoff.proofs.Laid.{Laid, stored, laid_flat, flat_laid}

-- ---- block by block

pub record ShownAt (unknown n v : ℕ) (R image marks : List ℕ) : Type 0 where
  pub full : length image ≡ n * v
  pub blocks : Laid v n (shown unknown n R) image
  pub size : length marks ≡ n
  pub mark_is : (j : ℕ) → j < n → get_or marks j 0 ≡ mark n R j

module _ (unknown n v : ℕ) (R image marks : List ℕ) where
  pub shown_at : Shown unknown n v R image marks → ShownAt unknown n v R image marks
  shown_at s =
      let f : ℕ → ℕ = shown unknown n R in
      record {
        full = ap length s.image_is ∙ length_flat v (tabulate n f) ∙ ap (λ (k : ℕ). k * v) (tabulate_length n f);
        blocks = λ j l. ap (part (j * v) v) s.image_is ∙ flat_laid v n f j l;
        size = ap length s.marks_are ∙ tabulate_length n (mark n R);
        mark_is = λ j l. ap (λ (M : List ℕ). get_or M j 0) s.marks_are ∙ tabulate_row n (mark n R) j l;
      }

  pub at_shown : ShownAt unknown n v R image marks → Shown unknown n v R image marks
  at_shown s = record {
    image_is = laid_flat v n (shown unknown n R) image s.full s.blocks;
    marks_are = is_tabulate marks n (mark n R) s.size s.mark_is;
  }

-- of the words that stand in place of an unknown block only as many count as a block has
module _ (ws : List ℕ) (f : Fit ws) (v : ℕ) (h : v ≤ length ws) where
  cut_words : first_words v (value (take v ws)) ≡ first_words v (value ws)
  cut_words =
      let l : length (take v ws) ≡ v = length-take-le v ws h in
      ap (λ (n : ℕ). first_words n (value (take v ws))) (sym l) ∙ sym (words_first (take v ws) (fit_take v ws f)) ∙ take_first v ws f h

  pub shown_cut : (n : ℕ) (R image marks : List ℕ) → Shown (value (take v ws)) n v R image marks → Shown (value ws) n v R image marks
  unfolding shown
  shown_cut n R image marks s =
      let a = shown_at (value (take v ws)) n v R image marks s in
      at_shown (value ws) n v R image marks
      (record { full = a.full; blocks = λ j l. a.blocks j l ∙ same (known n R j) (content n R j); size = a.size; mark_is = a.mark_is })
    where
      same : (b : Bool) (x : ℕ) → first_words v (cond b x (value (take v ws))) ≡ first_words v (cond b x (value ws))
      same true x = refl
      same false x = cut_words

-- ---- no rows, no known block

none_said : (unknown n j : ℕ) → (shown unknown n [] j ≡ unknown) × (mark n [] j ≡ 0)
unfolding shown mark known pivot_row
none_said unknown n j =
    let e : eqb (0 % 2 ^ n) (2 ^ j) ≡ false = ne_eqb (0 % 2 ^ n) (2 ^ j) (omega (arith, pow_pos j, zero-mod (2 ^ n))) in
    rw e (refl, refl)

-- a turn of the loop that copies the words of an unknown block
pub unknown_turn : (words d₀ d : List ℕ) (a v l : ℕ) → Fit words → d ≡ paste d₀ a (first_words v (value words)) l → l < v → a + v ≤ length d₀
    → set d (a + l) (get_or words l 0) ≡ paste d₀ a (first_words v (value words)) (l + 1)
unknown_turn words d₀ d a v l fit e h b =
    paste_more d₀ d a (first_words v (value words)) l (get_or words l 0) e (omega arith) (omega (arith, length_first v (value words)))
    (value_word words l fit ∙ sym (get_or_first v (value words) l h))

-- the first j blocks are unknown
pub record Unknown (unknown v : ℕ) (image marks : List ℕ) (j : ℕ) : Type 0 where
  pub blocks : Laid v j (λ _. unknown) image
  pub unmarked : (i : ℕ) → i < j → get_or marks i 0 ≡ 0

module _ (unknown n v : ℕ) (image marks : List ℕ) (j : ℕ) (b : Unknown unknown v image marks j) where
  pub unknown_block : j < n → length image ≡ n * v → length marks ≡ n → (image' marks' : List ℕ) → image' ≡ paste image (j * v) (first_words v unknown) v
      → marks' ≡ set marks j 0 → Unknown unknown v image' marks' (j + 1)
  unknown_block l hi hm image' marks' ei em = record {
    blocks = stored v n (j + 1) (λ _. unknown) image image' j unknown l (omega arith) hi ei refl (λ i h ne. b.blocks i (omega arith));
    unmarked = λ i h. unmarked i h (ℕ_discrete i j);
  }
    where
      unmarked : (i : ℕ) → i < j + 1 → Dec (i ≡ j) → get_or marks' i 0 ≡ 0
      unmarked i h (yes e) =
          ap (λ (M : List ℕ). get_or M i 0) em ∙ ap (λ (k : ℕ). get_or (set marks j 0) k 0) e ∙ get_or-set_same marks j 0 0 (omega arith)
      unmarked i h (no ne) = ap (λ (M : List ℕ). get_or M i 0) em ∙ get_or-set_other marks j i 0 0 ne ∙ b.unmarked i (omega arith)

  pub unknown_shown : n ≤ j → length image ≡ n * v → length marks ≡ n → Shown unknown n v [] image marks
  unknown_shown h hi hm =
      at_shown unknown n v [] image marks (record {
        full = hi;
        blocks = λ i k. b.blocks i (omega arith) ∙ ap (first_words v) (sym (none_said unknown n i).0);
        size = hm;
        mark_is = λ i k. b.unmarked i (omega arith) ∙ sym (none_said unknown n i).1;
      })

-- ---- one row more

module _ (unknown n r : ℕ) (R : List ℕ) (j : ℕ) where
  -- whether the row has no coefficient but that of block j
  abbrev pub alone : Bool
  alone = eqb (r % 2 ^ n) (2 ^ j)

  says_shown : inside j (suc j) r ≡ true → shown unknown n (r ∷ R) j ≡ cond alone (r / 2 ^ n) unknown
  unfolding shown known content pivot_row
  says_shown e = rw e

  says_mark : inside j (suc j) r ≡ true → mark n (r ∷ R) j ≡ one_if alone
  unfolding mark known pivot_row
  says_mark e = rw e

  silent_shown : inside j (suc j) r ≡ false → shown unknown n (r ∷ R) j ≡ shown unknown n R j
  unfolding shown known content pivot_row
  silent_shown e = rw e

  silent_mark : inside j (suc j) r ≡ false → mark n (r ∷ R) j ≡ mark n R j
  unfolding mark known pivot_row
  silent_mark e = rw e

module _ (unknown n v r : ℕ) (R image marks : List ℕ) (s : ShownAt unknown n v R image marks) where
  silent : (i : ℕ) → i < n → inside i (suc i) r ≡ false → part (i * v) v image ≡ first_words v (shown unknown n (r ∷ R) i)
  silent i h out = s.blocks i h ∙ ap (first_words v) (sym (silent_shown unknown n r R i out))

  -- its pivot is no coefficient's
  pub nothing_said : ((j : ℕ) → j < n → inside j (suc j) r ≡ false) → ShownAt unknown n v (r ∷ R) image marks
  nothing_said out = record {
    full = s.full;
    blocks = λ j l. silent j l (out j l);
    size = s.size;
    mark_is = λ j l. s.mark_is j l ∙ sym (silent_mark unknown n r R j (out j l));
  }

  -- it is that of block j
  module _ (j : ℕ) (l : j < n) (here : inside j (suc j) r ≡ true) (other : (i : ℕ) → i ≢ j → inside i (suc i) r ≡ false) where
    pub said : (x y : ℕ) (image' marks' : List ℕ) → length image' ≡ length image → image' ≡ paste image (j * v) (first_words v x) v → marks' ≡ set marks j y
        → x ≡ cond (alone unknown n r R j) (r / 2 ^ n) unknown → y ≡ one_if (alone unknown n r R j) → ShownAt unknown n v (r ∷ R) image' marks'
    said x y image' marks' li ei em ex ey = record {
      full = li ∙ s.full;
      blocks = stored v n n (shown unknown n (r ∷ R)) image image' j x l (omega arith) s.full ei (ex ∙ sym (says_shown unknown n r R j here))
          (λ i h ne. silent i h (other i ne));
      size = ap length em ∙ length-set marks j y ∙ s.size;
      mark_is = λ i h. mark_at i h (ℕ_discrete i j);
    }
      where
        mark_at : (i : ℕ) → i < n → Dec (i ≡ j) → get_or marks' i 0 ≡ mark n (r ∷ R) i
        mark_at i h (yes e) =
            ap (λ (k : ℕ). get_or marks' k 0) e ∙ ap (λ (M : List ℕ). get_or M j 0) em
            ∙ get_or-set_same marks j y 0 (omega (arith, s.size)) ∙ ey ∙ sym (says_mark unknown n r R j here)
            ∙ ap (mark n (r ∷ R)) (sym e)
        mark_at i h (no ne) =
            ap (λ (M : List ℕ). get_or M i 0) em ∙ get_or-set_other marks j i y 0 ne ∙ s.mark_is i h ∙ sym (silent_mark unknown n r R i (other i ne))

-- ---- from the last row to the first

module _ (unknown n v w rows : ℕ) (m : List ℕ) where
  pub rows_none : (image marks : List ℕ) → Shown unknown n v [] image marks → Shown unknown n v (drop rows (rows_of w rows m)) image marks
  rows_none image marks s = rw (drop_of_length-le (rows_of w rows m) {i = rows} (omega (arith, length_rows w rows m))) s

  pub rows_more : (i : ℕ) (image marks image' marks' : List ℕ) → 0 < i → i ≤ rows
      → ((R : List ℕ) → Shown unknown n v R image marks → Shown unknown n v (value (part ((i - 1) * w) w m) ∷ R) image' marks')
      → Shown unknown n v (drop i (rows_of w rows m)) image marks → Shown unknown n v (drop (i - 1) (rows_of w rows m)) image' marks'
  rows_more i image marks image' marks' pos h step s =
      let e : suc (i - 1) ≡ i = omega arith in
      let d : drop (i - 1) (rows_of w rows m) ≡ value (part ((i - 1) * w) w m) ∷ drop i (rows_of w rows m) =
      drop-cons (rows_of w rows m) (i - 1) 0 (omega (arith, length_rows w rows m))
      ∙ ap₂ (λ (x : ℕ) (k : ℕ). x ∷ drop k (rows_of w rows m)) (get_or_rows w rows m (i - 1) (omega arith)) e in
      rw d (step (drop i (rows_of w rows m)) s)

-- ---- the count

pub marks_small : (unknown n v : ℕ) (R image marks : List ℕ) → Shown unknown n v R image marks → (j : ℕ) → get_or marks j 0 ≤ 1
unfolding mark
marks_small unknown n v R image marks s j = go (dec_lt j n)
  where
    one : (b : Bool) → one_if b ≤ 1
    one true = omega arith
    one false = omega arith

    go : Dec (j < n) → get_or marks j 0 ≤ 1
    go (yes l) = omega (arith, (shown_at unknown n v R image marks s).mark_is j l, one (known n R j))
    go (no l) = omega (arith, get_or-eq_default marks 0 {n = j} (omega (arith, (shown_at unknown n v R image marks s).size)))

module _ (xs : List ℕ) where
  pub marked_turn : (sum j : ℕ) → sum + marked (drop j xs) ≡ marked xs → j < length xs → sum + get_or xs j 0 + marked (drop (j + 1) xs) ≡ marked xs
  unfolding marked
  marked_turn sum j e h =
      let s : marked (drop j xs) ≡ get_or xs j 0 + marked (drop (suc j) xs) = ap marked (drop-cons xs j 0 h) in
      let n : j + 1 ≡ suc j = omega arith in
      ap (λ (k : ℕ). sum + get_or xs j 0 + marked (drop k xs)) n ∙ omega arith

  pub marked_end : (sum j : ℕ) → sum + marked (drop j xs) ≡ marked xs → length xs ≤ j → sum ≡ marked xs
  unfolding marked
  marked_end sum j e h =
      let z : marked (drop j xs) ≡ 0 = ap marked (drop_of_length-le xs {i = j} h) in
      omega arith

bit_is : (x : ℕ) → x ≤ 1 → cond (eqb x 1) 1 0 ≡ x
bit_is x h = grind (arith, nat_tests)

-- the sum of marks is the number of those that are set
pub marked_count : (xs : List ℕ) → ((j : ℕ) → get_or xs j 0 ≤ 1) → count_by (λ x. eqb x 1) xs ≡ marked xs
unfolding marked
marked_count [] h = refl
marked_count (x ∷ xs) h =
    let one : cond (eqb x 1) 1 0 ≡ x = bit_is x (h 0) in
    sum_by-cons (λ y. cond (eqb y 1) 1 0) x xs ∙ ap₂ (λ (a b : ℕ). a + b) one (marked_count xs (λ j. h (suc j)))
