-- Each turn does one window.
use mathlib.Core.Path.{◌≡◌}
use Prim.Native.Nat.{◌*◌, ◌^◌, ◌≤◌}
use lib.ListN.{drop}
use Rattle.words.specs.Words.{rows_of}
use Rattle.engine.proofs.Windows.{Passed}
use Rattle.engine.proofs.all.Given as goal

abbrev pub invariant-loop-j : goal.invariant-loop-j
invariant-loop-j l =
    Passed l.n l.columns l.k l.j l.rank l.additions (rows_of l.w l.n l.initial.m) (rows_of l.w l.n l.m) l.cols × (l.additions ≤ l.j * 255) × (drop (l.n * l.w) l.m ≡ drop (l.n * l.w) l.initial.m) × (drop (2 ^ l.k * l.w) l.t ≡ drop (2 ^ l.k * l.w) l.initial.t)
