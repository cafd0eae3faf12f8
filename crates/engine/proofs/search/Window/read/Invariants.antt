-- A turn reads one row more: places up to i have their bytes, places from `to` on are as they were, and the union is that of the former.
use mathlib.Core.Path.{◌≡◌}
use Prim.Native.Nat.{ℕ, ◌≤◌, ◌<◌}
use lib.ListN.{get_or}
use Rattle.gf2.specs.Rows.{row}
use Rattle.words.specs.Words.{rows_of, window_bits}
use Rattle.engine.specs.Stage.{Union}
use Rattle.engine.proofs.search.Window.read.Given as goal

abbrev pub invariant-loop-i : goal.invariant-loop-i
invariant-loop-i l = ((j : ℕ) → l.from ≤ j → j < l.i → get_or l.h j 0 ≡ window_bits l.self.c l.self.k (row (rows_of l.self.w l.self.n l.m) j)) × ((j : ℕ) → l.to ≤ j → get_or l.h j 0 ≡ get_or l.initial.h j 0) × Union l.i l.from l.h l.union
