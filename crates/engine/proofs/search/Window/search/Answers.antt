-- Before the loop no pivot is found and the rows have the bits that they will have.
use mathlib.Core.Path.{◌≡◌}
use mathlib.Core.List.{List, ◌++◌}
use Prim.Native.Nat.{ℕ, ◌<◌, ◌≤◌}
use borrow.Author.Rules.{rules}
use native.Mathlib.Omega.{arith}
use lib.ListN.{length, get_or, drop}
use Rattle.std.proofs.lemmas.List.{places}
use Rattle.words.proofs.Rows.{length_rows}
use Rattle.engine.proofs.Steps.{search_start, kept_all}
use Rattle.engine.proofs.search.Window.search.Goals as goal

pub loop-x-init : goal.loop-x-init
loop-x-init c =
    let g = c.args in
    let w = g.self in
    let r = c.read-union in
    let o : List ℕ = c.fill.new.self ++ drop w.base c.copy_from_slice.new.self in
    let used : (i : ℕ) → i < w.base → get_or o i 0 ≡ 0 = λ i l. search (rules, places) in
    let same : (i : ℕ) → w.base ≤ i → get_or o i 0 ≡ get_or r.new.h i 0 = λ i a. search (rules, places) in
    let size : length o ≡ w.n = search rules in (
      search_start _ _ _ _ _ _ _ _ (length_rows w.w w.n g.m.now) c.requires.3 (search rules) size r.ensures.0 (λ i a l. same i a) used,
      λ i y a l e. rw (same i (omega arith)) (r.ensures.2 i y (omega arith) l e),
      kept_all _ _ _ _ _,
    )
