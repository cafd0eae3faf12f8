-- What a caller knows of the room: after the call, and when the matrix in it has been cleared too.
use mathlib.Core.Path.{◌≡◌, refl, sym, ap, ap₂, ◌∙◌, subst}
use mathlib.Core.List.{List, ◌++◌, append_assoc}
use Prim.Native.Nat.{ℕ, ◌+◌, ◌*◌, ◌^◌, ◌≤◌, ◌<◌, min}
use native.Mathlib.Nat.{zero-add, add-mul, min-eq_left}
use native.Mathlib.Omega.{arith}
use lib.ListN.{length, drop, replicate, length-replicate, replicate-append-replicate}
use lib.Seq.{take_all}
use Rattle.std.specs.Prelude.{Result, Ok, Err, IsOk}
use Rattle.gf2.specs.Rows.{row}
use Rattle.gf2.specs.Inverse.{adjoin}
use Rattle.gf2.proofs.Adjoin.{adjoin_narrow}
use Rattle.gf2.proofs.Space.{same_narrow}
use Rattle.words.specs.Words.{words_of, rows_of, Clean, zeroed}
use Rattle.words.proofs.Rows.{length_rows}
use Rattle.refusals.specs.declared.Unfit.{Unfit}
use Rattle.beside.specs.Beside.{FitsBeside, Beside, BesideReduced}

-- ---- where the shapes fit

pub room_reduced : (rows columns k : ℕ) (m room room₁ : List ℕ) → FitsBeside rows columns k m (length room) → (r : Result (Unit {0}) Unfit) → BesideReduced r rows columns k m room room₁
    → Beside rows columns k m room room₁
room_reduced rows columns k m room room₁ fits (Ok t) b = b.1
room_reduced rows columns k m room room₁ fits (Err u) b = absurd (b.0 fits)

pub room_taken : (rows columns k : ℕ) (m room room₁ : List ℕ) → FitsBeside rows columns k m (length room) → (r : Result (Unit {0}) Unfit) → BesideReduced r rows columns k m room room₁ → IsOk r
room_taken rows columns k m room room₁ fits (Ok t) b = refl
room_taken rows columns k m room room₁ fits (Err u) b = absurd (b.0 fits)

-- the rows in the room are no wider than matrix and identity together
pub room_clean : (rows columns k : ℕ) (m room room₁ : List ℕ) → Clean rows columns m → Beside rows columns k m room room₁ → Clean rows (columns + rows) room₁
room_clean rows columns k m room room₁ clean b =
    let L : List ℕ = rows_of (words_of columns) rows m in
    same_narrow (columns + rows) (adjoin columns L) (rows_of (words_of (columns + rows)) rows room₁) b.form.space
    (subst (λ (x : ℕ). (i : ℕ) → row (adjoin columns L) i < 2 ^ (columns + x)) (length_rows (words_of columns) rows m) (adjoin_narrow columns L clean))

-- ---- the whole room cleared

-- the matrix's words become zero as well: then all needed words are, and further ones are as they were
zeroed_sum : (a b : ℕ) (room room₁ : List ℕ) → a + b ≤ length room → length room₁ ≡ length room → drop a room₁ ≡ replicate b 0 ++ drop (a + b) room
    → zeroed 0 (min a (length room₁)) room₁ ≡ zeroed 0 (a + b) room
zeroed_sum a b room room₁ h l d =
    ap (λ (x : ℕ). zeroed 0 x room₁) (min-eq_left {n = a} {m = length room₁} (omega arith))
    ∙ plain a room₁ ∙ ap (λ (t : List ℕ). replicate a 0 ++ t) d ∙ sym (append_assoc (replicate a 0) (replicate b 0) (drop (a + b) room))
    ∙ ap (λ (t : List ℕ). t ++ drop (a + b) room) (replicate-append-replicate a b 0) ∙ sym (plain (a + b) room)
  where
    plain : (n : ℕ) (x : List ℕ) → zeroed 0 n x ≡ replicate n 0 ++ drop n x
    plain n x = ap₂ (λ (y z : List ℕ). y ++ z) (take_all n (replicate n 0) (omega (arith, length-replicate {A = ℕ} n 0))) (ap (λ (i : ℕ). drop i x) (zero-add n))

pub room_cleared : (rows k w : ℕ) (room room₁ : List ℕ) → (rows + 2 ^ k) * w ≤ length room → length room₁ ≡ length room
    → drop (rows * w) room₁ ≡ replicate (2 ^ k * w) 0 ++ drop ((rows + 2 ^ k) * w) room → zeroed 0 (min (rows * w) (length room₁)) room₁ ≡ zeroed 0 ((rows + 2 ^ k) * w) room
room_cleared rows k w room room₁ h l d =
    let e : (rows + 2 ^ k) * w ≡ rows * w + 2 ^ k * w = add-mul rows (2 ^ k) w in
    zeroed_sum (rows * w) (2 ^ k * w) room room₁ (omega arith) l (d ∙ ap (λ (x : ℕ). replicate (2 ^ k * w) 0 ++ drop x room) e) ∙ ap (λ (x : ℕ). zeroed 0 x room) (sym e)
