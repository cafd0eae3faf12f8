-- A turn clears column c + x in one earlier pivot row more; row base + s, by which it is cleared, stays.
use mathlib.Core.Path.{◌≡◌}
use Prim.Native.Nat.{◌+◌, ◌*◌}
use lib.ListN.{drop}
use Rattle.words.specs.Words.{rows_of}
use Rattle.engine.specs.Stage.{Lifted}
use Rattle.engine.proofs.search.Window.lift.Given as goal

abbrev pub invariant-loop-p : goal.invariant-loop-p
invariant-loop-p l = Lifted (l.self.c + l.x) l.self.base l.s l.p (rows_of l.self.w l.self.n l.initial.m) (rows_of l.self.w l.self.n l.m) × (drop (l.self.n * l.self.w) l.m ≡ drop (l.self.n * l.self.w) l.initial.m)
