-- Before the loop no pivot is found and the rows have the bits that they will have; a turn does one column more.
use Prim.Native.Nat.{◌+◌}
use Rattle.words.specs.Words.{rows_of}
use Rattle.engine.specs.Stage.{Search, Kept, Union}
use Rattle.engine.proofs.search.Window.search.Given as goal

abbrev pub invariant-loop-x : goal.invariant-loop-x
invariant-loop-x l = Search l.self.n l.self.c l.self.k l.x l.self.base l.seen.found (rows_of l.self.w l.self.n l.m) l.h l.o l.cols × Union l.self.n (l.self.base + l.seen.found) l.o l.seen.union × Kept l.self.w l.self.n l.self.base l.initial.m l.m l.initial.cols l.cols
