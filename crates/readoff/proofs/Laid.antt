-- Rows laid out as words: stored one by one, and all of them.
use mathlib.Core.Path.{◌≡◌, refl, sym, ap, ap₂, ◌∙◌}
use mathlib.Core.Logic.{◌≢◌, inl, inr}
use mathlib.Core.List.{List, [], ◌∷◌, ◌++◌}
use Prim.Native.Nat.{ℕ, zero, suc, ◌+◌, ◌*◌, ◌≤◌, ◌<◌}
use native.Mathlib.Nat.{zero-mul, suc-mul}
use native.Mathlib.Decide.{ℕ_discrete}
use native.Mathlib.Omega.{arith}
use lib.ListN.{length, get_or, take, drop, take-append-drop, length-drop}
use lib.Seq.{paste, ext_get_or, length-paste, take_at, drop_at, drop-drop}
use Rattle.gf2.specs.Rows.{part, tabulate}
use Rattle.words.specs.Words.{Fit, value, first_words, flat}
use Rattle.words.proofs.First.{length_first, words_first}
use Rattle.words.proofs.Parts.{Apart, length_part, get_or_part, part_same, paste_before, paste_in, paste_after}
use Rattle.words.proofs.Rows.{row_ends, apart}

-- each of the first b rows of v words holds the lowest words of f of its number
abbrev pub Laid : ℕ → ℕ → (ℕ → ℕ) → List ℕ → Type 0
Laid v b f d = (j : ℕ) → j < b → part (j * v) v d ≡ first_words v (f j)

-- ---- words x stored in place of row i

module _ (v n i : ℕ) (d x : List ℕ) (hi : i < n) (hd : n * v ≤ length d) (hx : length x ≡ v) where
  ends : (k : ℕ) → k < n → k * v + v ≤ length d
  ends k h = omega (arith, row_ends k n v h)

  size : length (paste d (i * v) x v) ≡ length d
  size = length-paste d (i * v) x v (ends i hi) (omega arith)

  part_here : part (i * v) v (paste d (i * v) x v) ≡ x
  part_here =
      let l : length (part (i * v) v (paste d (i * v) x v)) ≡ v = length_part (i * v) v (paste d (i * v) x v) (omega (arith, ends i hi, size)) in
      ext_get_or 0 (part (i * v) v (paste d (i * v) x v)) x (l ∙ sym hx)
      (λ j h. let k : j < v = omega arith in
      get_or_part (i * v) v (paste d (i * v) x v) j k ∙ paste_in d (i * v) x v (ends i hi) (omega arith) j k)

  part_other : (k : ℕ) → k < n → k ≢ i → part (k * v) v (paste d (i * v) x v) ≡ part (k * v) v d
  part_other k hk ne =
      part_same (paste d (i * v) x v) d (k * v) v (omega (arith, ends k hk, size)) (ends k hk) (λ j h. at j h (apart k i v ne))
    where
      at : (j : ℕ) → j < v → Apart (k * v) (i * v) v → get_or (paste d (i * v) x v) (k * v + j) 0 ≡ get_or d (k * v + j) 0
      at j h (inl l) = paste_before d (i * v) x v (ends i hi) (omega arith) (k * v + j) (omega arith)
      at j h (inr l) = paste_after d (i * v) x v (ends i hi) (omega arith) (k * v + j) (omega arith)

module _ (v n b : ℕ) (f : ℕ → ℕ) (d d' : List ℕ) (i x : ℕ) (hi : i < n) (hb : b ≤ n) (hd : length d ≡ n * v) where
  -- the row that was wanting, among rows that stand there
  pub stored : d' ≡ paste d (i * v) (first_words v x) v → x ≡ f i → ((j : ℕ) → j < b → j ≢ i → part (j * v) v d ≡ first_words v (f j)) → Laid v b f d'
  stored e ex others j h = ap (part (j * v) v) e ∙ go (ℕ_discrete j i)
    where
      full : n * v ≤ length d
      full = omega arith

      go : Dec (j ≡ i) → part (j * v) v (paste d (i * v) (first_words v x) v) ≡ first_words v (f j)
      go (yes s) =
          ap (λ (k : ℕ). part (k * v) v (paste d (i * v) (first_words v x) v)) s ∙ part_here v n i d (first_words v x) hi full (length_first v x)
          ∙ ap (first_words v) (ex ∙ ap f (sym s))
      go (no s) = part_other v n i d (first_words v x) hi full (length_first v x) j (omega arith) s ∙ others j h s

-- words that are read as a number
pub stored_words : (a : ℕ) (d ws : List ℕ) → Fit ws → paste d a ws (length ws) ≡ paste d a (first_words (length ws) (value ws)) (length ws)
stored_words a d ws f = ap (λ (x : List ℕ). paste d a x (length ws)) (words_first ws f)

-- ---- all rows

-- row j past the first one is row j of the rest
part_rest : (v j : ℕ) (d : List ℕ) → part (j * v) v (drop v d) ≡ part (suc j * v) v d
part_rest v j d =
    let e : v + j * v ≡ suc j * v = omega (arith, suc-mul j v) in
    ap (take v) (drop-drop (j * v) v d ∙ ap (λ (k : ℕ). drop k d) e)

pub laid_flat : (v n : ℕ) (f : ℕ → ℕ) (d : List ℕ) → length d ≡ n * v → Laid v n f d → d ≡ flat v (tabulate n f)
unfolding flat tabulate
laid_flat v zero f [] l h = refl
laid_flat v zero f (x ∷ d) l h = absurd (omega (arith, zero-mul v))
laid_flat v (suc n) f d l h =
    let first : take v d ≡ first_words v (f 0) = ap (λ (k : ℕ). part k v d) (sym (zero-mul v)) ∙ h 0 (omega arith) in
    let rest : drop v d ≡ flat v (tabulate n (λ i. f (suc i))) =
    laid_flat v n (λ i. f (suc i)) (drop v d) (omega (arith, suc-mul n v, length-drop v d)) (λ j k. part_rest v j d ∙ h (suc j) (omega arith)) in
    sym (take-append-drop v d) ∙ ap₂ ◌++◌ first rest

pub flat_laid : (v n : ℕ) (f : ℕ → ℕ) → Laid v n f (flat v (tabulate n f))
unfolding flat tabulate
flat_laid v zero f j h = absurd (omega arith)
flat_laid v (suc n) f zero h =
    ap (λ (k : ℕ). part k v (first_words v (f 0) ++ flat v (tabulate n (λ i. f (suc i))))) (zero-mul v)
    ∙ take_at (first_words v (f 0)) (flat v (tabulate n (λ i. f (suc i)))) v (length_first v (f 0))
flat_laid v (suc n) f (suc j) h =
    sym (part_rest v j (first_words v (f 0) ++ flat v (tabulate n (λ i. f (suc i)))))
    ∙ ap (part (j * v) v) (drop_at (first_words v (f 0)) (flat v (tabulate n (λ i. f (suc i)))) v (length_first v (f 0)))
    ∙ flat_laid v n (λ i. f (suc i)) j (omega arith)

-- the words of one row, in a buffer of as many
pub whole : (v u : ℕ) (d : List ℕ) → length d ≡ v → paste d 0 (first_words v u) v ≡ first_words v u
whole v u d l =
    ext_get_or 0 (paste d 0 (first_words v u) v) (first_words v u) (size₀ ∙ l ∙ sym (length_first v u)) (λ j k. at j (omega (arith, size₀)))
  where
    size₀ : length (paste d 0 (first_words v u) v) ≡ length d
    size₀ = length-paste d 0 (first_words v u) v (omega arith) (omega (arith, length_first v u))

    at : (j : ℕ) → j < v → get_or (paste d 0 (first_words v u) v) j 0 ≡ get_or (first_words v u) j 0
    at j k =
        ap (λ (i : ℕ). get_or (paste d 0 (first_words v u) v) i 0) (omega arith)
        ∙ paste_in d 0 (first_words v u) v (omega arith) (omega (arith, length_first v u)) j k
