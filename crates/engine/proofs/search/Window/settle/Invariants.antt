-- A turn clears row i in the column of one pivot row more; that row has no one in the other columns.
use mathlib.Core.Path.{◌≡◌}
use Prim.Native.Nat.{◌*◌}
use lib.ListN.{drop}
use Rattle.words.specs.Words.{rows_of}
use Rattle.engine.specs.Stage.{Settled}
use Rattle.engine.proofs.search.Window.settle.Given as goal

abbrev pub invariant-loop-p : goal.invariant-loop-p
invariant-loop-p l = Settled l.self.base l.s l.p l.i (rows_of l.self.w l.self.n l.initial.m) l.cols (rows_of l.self.w l.self.n l.m) × (drop (l.self.n * l.self.w) l.m ≡ drop (l.self.n * l.self.w) l.initial.m)
