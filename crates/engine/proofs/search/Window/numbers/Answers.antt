-- With a pivot in every column the bits themselves are the numbers, else they are gathered. Then those of the pivot rows become 0, and the others stay.
use mathlib.Core.Path.{◌≡◌, ◌∙◌}
use mathlib.Core.List.{List}
use mathlib.Core.Logic.{◌⊎◌}
use Prim.Native.Nat.{ℕ, ◌+◌, ◌<◌, ◌≤◌}
use borrow.Author.Rules.{rules}
use native.Mathlib.Omega.{arith}
use lib.ListN.{length, get_or}
use Rattle.std.specs.List.{between}
use Rattle.std.proofs.lemmas.List.{places}
use Rattle.std.proofs.lemmas.List.Edits.{length-between}
use Rattle.gf2.specs.Rows.{row}
use Rattle.words.specs.Words.{rows_of, window_bits}
use Rattle.engine.specs.Stage.{Gathered}
use Rattle.engine.proofs.NumberLaws.{bits_name, numbers_named}
use Rattle.engine.proofs.search.Window.numbers.Goals as goal
use Rattle.engine.proofs.search.Window.numbers.Goals.{then-r-self, else-r-self}

pub returns : goal.returns
returns c =
    let g = c.args in
    let w = g.self in
    let p = c.requires in
    let M : List ℕ = rows_of w.w w.n g.m.now in
    let r = c.read.ensures in
    let h : List ℕ = c.read.new.h in
    let o : List ℕ = c.if-r-self.h in
    let pivots : List ℕ = between w.base (w.base + g.r) g.cols.now in
    let size : length pivots ≡ g.r = omega (arith, length-between g.cols.now w.base (w.base + g.r) (omega arith)) in
    let low : (i : ℕ) → i < w.base → get_or h i 0 ≡ window_bits w.c w.k (row M i) = λ i l. r.0 i (omega arith) l in
    let high : (i : ℕ) → w.base + g.r ≤ i → i < w.n → get_or h i 0 ≡ window_bits w.c w.k (row M i) = λ i a l. r.1 i (omega arith) ∙ p.6 i a l in
    let named : (i : ℕ) → i < w.n → (i < w.base) ⊎ (w.base + g.r ≤ i) → Gathered w.c g.r pivots (get_or h i 0) (get_or o i 0) =
    elim c.if-r-self.branch [
      | then-r-self b ↦ λ i l out. rw b.h-is (rw size at (b.gather_all.ensures i (search rules)))
      | else-r-self b ↦ λ i l out. rw b.h-is (bits_name w.n w.c w.k w.base g.r M h g.cols.now p.5 low high b.if-r-self.false i l out)
    ] in
    numbers_named w.n w.c w.k w.base g.r M h g.cols.now p.5 low high o _ named (λ i a l. search (rules, places)) (λ i a. search (rules, places)) (λ i a. search (rules, places))
