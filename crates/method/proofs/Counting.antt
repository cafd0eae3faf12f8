-- What the windows cost, summed up while pivots are found: later pivots change no earlier window.
use mathlib.Core.Path.{◌≡◌, refl, ap, ap₂, ◌∙◌}
use mathlib.Core.Bool.{◌&&◌}
use mathlib.Core.List.{List, [], ◌∷◌, ◌++◌}
use Prim.Native.Nat.{ℕ, zero, suc, ◌+◌, ◌*◌, ◌≤◌, ◌<◌, min}
use native.Mathlib.Nat.{suc-mul, add-zero, zero-add}
use native.Mathlib.Omega.{arith}
use lib.Dec.{leb, ltb}
use lib.ListN.{length, get_or}
use Rattle.gf2.specs.Rows.{one_if}
use Rattle.gf2.specs.Additions.{within, in_window, total_to}
use Rattle.gf2.proofs.Additions.{count_in, count_left, count_right, within_none}

within_append : (a e : ℕ) (ps qs : List ℕ) → within a e (ps ++ qs) ≡ within a e ps + within a e qs
unfolding within
within_append a e [] qs = omega arith
within_append a e (p ∷ ps) qs = ap (λ (x : ℕ). one_if (leb a p && ltb p e) + x) (within_append a e ps qs) ∙ omega arith

within_all : (a e : ℕ) (ps : List ℕ) → ((i : ℕ) → i < length ps → one_if (leb a (get_or ps i 0) && ltb (get_or ps i 0) e) ≡ 1) → within a e ps ≡ length ps
unfolding within
within_all a e [] h = refl
within_all a e (p ∷ ps) h = rw (h 0 (omega arith), within_all a e ps (λ i l. h (suc i) (omega arith))) (omega arith)

-- the windows before column j * k, and pivots from there on
total_before : (cost : ℕ → ℕ) (k columns j : ℕ) (ps qs : List ℕ) → ((i : ℕ) → i < length qs → j * k ≤ get_or qs i 0) → total_to cost k columns (ps ++ qs) j ≡ total_to cost k columns ps j
unfolding total_to in_window
total_before cost k columns zero ps qs h = refl
total_before cost k columns (suc j) ps qs h =
    let a : ℕ = j * k in
    let e : ℕ = min (j * k + k) columns in
    let none : within a e qs ≡ 0 = within_none a e qs (λ i l. count_right a e (get_or qs i 0) (omega (arith, suc-mul j k, h i l))) in
    ap₂ (λ (x y : ℕ). x + cost y) (total_before cost k columns j ps qs (λ i l. omega (arith, suc-mul j k, h i l)))
    (within_append a e ps qs ∙ ap (λ (x : ℕ). within a e ps + x) none ∙ add-zero (within a e ps))

-- one window more, window j: ps are the pivots before it, qs those in it
pub total_more : (cost : ℕ → ℕ) (k columns j : ℕ) (ps qs : List ℕ) → ((i : ℕ) → i < length ps → get_or ps i 0 < j * k) → ((i : ℕ) → i < length qs → j * k ≤ get_or qs i 0)
    → ((i : ℕ) → i < length qs → get_or qs i 0 < j * k + k) → ((i : ℕ) → i < length qs → get_or qs i 0 < columns)
    → total_to cost k columns (ps ++ qs) (suc j) ≡ total_to cost k columns ps j + cost (length qs)
unfolding total_to in_window
total_more cost k columns j ps qs before from to narrow =
    let a : ℕ = j * k in
    let e : ℕ = min (j * k + k) columns in
    let none : within a e ps ≡ 0 = within_none a e ps (λ i l. count_left a e (get_or ps i 0) (before i l)) in
    let all : within a e qs ≡ length qs = within_all a e qs (λ i l. count_in a e (get_or qs i 0) (from i l) (omega (arith, to i l, narrow i l))) in
    ap₂ (λ (x y : ℕ). x + cost y) (total_before cost k columns j ps qs from) (within_append a e ps qs ∙ ap₂ (λ (x y : ℕ). x + y) none all ∙ zero-add (length qs))
