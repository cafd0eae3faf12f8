-- Pivots on record, from no column done to all: then the matrix is reduced, and rank and record are its own. For any engine, with a table or without.
use mathlib.Core.Path.{◌≡◌, sym, ap, ap₂, ◌∙◌}
use mathlib.Core.List.{List, ◌++◌}
use Prim.Native.Nat.{ℕ, ◌+◌, ◌-◌, ◌^◌, ◌≤◌, ◌<◌}
use native.Mathlib.Omega.{arith}
use lib.ListN.{length, get_or, take, drop, replicate, length-drop, length-replicate, get_or-replicate, take-append-drop}
use lib.Seq.{ext_get_or, get_or-take, get_or-drop, length-take-le}
use Rattle.gf2.specs.Rows.{row, SameRowSpace}
use Rattle.gf2.specs.Reduced.{ReducedForm, pivots, rank, pivot_record}
use Rattle.gf2.proofs.Pivot.{pivot_unique}
use Rattle.gf2.proofs.Pivots.{pivots_are}
use Rattle.method.specs.Stage.{Stage, Unset}
use Rattle.method.proofs.Upto.{upto_start, upto_zero, upto_done}

-- no column is done yet
pub stage_start : (n : ℕ) (M cols : List ℕ) → n ≤ length cols → Unset cols → Stage n 0 0 M cols
stage_start n M cols l none = record { upto = upto_start M; pivots = λ i h. absurd (omega arith); none = λ i a h. none i h; room = omega arith; whole = l }

-- a recorded pivot stands left of where the elimination is
pub stage_left : {n c r : ℕ} {M cols : List ℕ} → Stage n c r M cols → (i : ℕ) → i < r → get_or cols i 0 < c
stage_left {M = M} {cols = cols} t i h =
    let u = t.upto.used i h in
    omega (arith, u.1, pivot_unique (get_or cols i 0) u.0 (row M i) (t.pivots i h) u.2)

-- all columns done
module _ {n c r : ℕ} {M cols : List ℕ} (t : Stage n c r M cols) (narrow : (i : ℕ) → row M i < 2 ^ c) where
  pub form_done : {L : List ℕ} → length M ≡ length L → SameRowSpace L M → ReducedForm L M
  form_done l s = record { size = l; reduced = upto_done c r M t.upto narrow; space = s }

  first : length (take r cols) ≡ r
  first = length-take-le r cols (omega (arith, t.room, t.whole))

  pub pivots_done : pivots M ≡ take r cols
  pivots_done = pivots_are M (take r cols) (record {
    used = λ i l. let h : i < r = omega (arith, first) in rw (get_or-take r cols i 0 h) (t.pivots i h);
    rest = λ i l. upto_zero c r M t.upto narrow i (omega (arith, first));
  })

  pub rank_done : rank M ≡ r
  rank_done = ap length pivots_done ∙ first

  behind : drop r cols ≡ replicate (length cols - r) 65535
  behind =
      ext_get_or 0 (drop r cols) (replicate (length cols - r) 65535) (length-drop r cols ∙ sym (length-replicate {A = ℕ} (length cols - r) 65535))
      (λ i l. let h : r + i < length cols = omega (arith, length-drop r cols) in
      get_or-drop r cols i 0 ∙ t.none (r + i) (omega arith) h ∙ sym (get_or-replicate {A = ℕ} (length cols - r) i 65535 0 (omega arith)))

  pub record_done : cols ≡ pivot_record (length cols) M
  record_done =
      sym (take-append-drop r cols)
      ∙ ap₂ (λ (X Y : List ℕ). X ++ Y) (sym pivots_done) (behind ∙ ap (λ (q : ℕ). replicate (length cols - q) 65535) (sym rank_done))
