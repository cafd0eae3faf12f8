-- Rows laid out as words, and words taken as rows, are each other's inverse.
use mathlib.Core.Path.{◌≡◌, refl, sym, ap, ap₂, ◌∙◌, subst}
use mathlib.Core.List.{List, [], ◌∷◌, ◌++◌, append_assoc, append-nil}
use Prim.Native.Nat.{ℕ, zero, suc, ◌+◌, ◌*◌, ◌^◌, ◌<◌, ◌≤◌}
use native.Mathlib.Nat.{le_refl, zero-mul, suc-mul}
use native.Mathlib.Omega.{arith}
use lib.Dec.{lit<}
use lib.ListN.{length, take, drop, length-append, length-drop}
use lib.Seq.{take_all, take_at, drop_at, take-add, length-take-le}
use Rattle.gf2.specs.Rows.{row}
use Rattle.words.specs.Words.{Fit, value, rows_of, first_words, flat}
use Rattle.words.proofs.Value.{fit_take, fit_drop, value_lt, value_one}
use Rattle.words.proofs.First.{length_first, fit_first, value_first}

pub length_flat : (w : ℕ) (M : List ℕ) → length (flat w M) ≡ length M * w
unfolding flat
length_flat w [] = sym (zero-mul w)
length_flat w (v ∷ M) =
    length-append (first_words w v) (flat w M) ∙ ap₂ ◌+◌ (length_first w v) (length_flat w M)
    ∙ omega (arith, suc-mul (length M) w)

pub fit_append : (x y : List ℕ) → Fit x → Fit y → Fit (x ++ y)
fit_append [] y f g i = g i
fit_append (a ∷ x) y f g zero = f 0
fit_append (a ∷ x) y f g (suc i) = fit_append x y (λ j. f (suc j)) g i

pub fit_flat : (w : ℕ) (M : List ℕ) → Fit (flat w M)
unfolding flat
fit_flat w [] i = lit< tt
fit_flat w (v ∷ M) i = fit_append (first_words w v) (flat w M) (fit_first w v) (fit_flat w M) i

-- rows that fit their words are found again: the first k of them, whatever stands behind them all
pub rows_first : (w k : ℕ) (M rest : List ℕ) → k ≤ length M → ((i : ℕ) → row M i < 2 ^ (64 * w)) → rows_of w k (flat w M ++ rest) ≡ take k M
unfolding flat rows_of
rows_first w zero M rest h f = refl
rows_first w (suc k) [] rest h f = absurd (omega arith)
rows_first w (suc k) (v ∷ M) rest h f =
    let e : (first_words w v ++ flat w M) ++ rest ≡ first_words w v ++ (flat w M ++ rest) = append_assoc (first_words w v) (flat w M) rest in
    ap (λ (m : List ℕ). value (take w m) ∷ rows_of w k (drop w m)) e
    ∙ ap₂ (λ (x : ℕ) (L : List ℕ). x ∷ L)
    (ap value (take_at (first_words w v) (flat w M ++ rest) w (length_first w v)) ∙ value_first w v (f 0))
    (ap (rows_of w k) (drop_at (first_words w v) (flat w M ++ rest) w (length_first w v)) ∙ rows_first w k M rest (omega arith) (λ i. f (suc i)))

-- all of them
pub rows_flat : (w : ℕ) (M : List ℕ) → ((i : ℕ) → row M i < 2 ^ (64 * w)) → rows_of w (length M) (flat w M) ≡ M
rows_flat w M h =
    ap (rows_of w (length M)) (sym (append-nil (flat w M))) ∙ rows_first w (length M) M [] (le_refl (length M)) h ∙ take_all (length M) M (le_refl (length M))

-- words that fill their rows are found again
pub flat_rows : (w n : ℕ) (m : List ℕ) → Fit m → n * w ≤ length m → flat w (rows_of w n m) ≡ take (n * w) m
unfolding flat rows_of
flat_rows w zero m f h = ap (λ (k : ℕ). take k m) (sym (zero-mul w))
flat_rows w (suc n) m f h =
    let e : w + n * w ≡ suc n * w = omega (arith, suc-mul n w) in
    let l : length (take w m) ≡ w = length-take-le w m (omega (arith, e)) in
    let d : n * w ≤ length (drop w m) = omega (arith, e, length-drop w m) in
    let v : first_words w (value (take w m)) ≡ take w m =
    value_one (first_words w (value (take w m))) (take w m) (fit_first w (value (take w m))) (fit_take w m f) (length_first w (value (take w m)) ∙ sym l)
    (value_first w (value (take w m)) (subst (λ (k : ℕ). value (take w m) < 2 ^ (64 * k)) l (value_lt (take w m) (fit_take w m f)))) in
    ap₂ (λ (x y : List ℕ). x ++ y) v (flat_rows w n (drop w m) (fit_drop w m f) d) ∙ sym (take-add w (n * w) m) ∙ ap (λ (k : ℕ). take k m) e
