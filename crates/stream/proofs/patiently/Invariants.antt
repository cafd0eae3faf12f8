-- The step may be called again, and each of the tries so far has failed.
use Rattle.std.proofs.Common.{◌≡◌, List, Err, length}
use Rattle.std.specs.List.{FoldsTo}
use Rattle.std.specs.declared.io.Error.{Error}
use Rattle.stream.proofs.patiently.Given as goal

abbrev pub invariant-loop-tries : goal.invariant-loop-tries
invariant-loop-tries g l = record {
  callable : goal.F-IsAlwaysCallable g l.step;
  failed : (errors : List Error) × (length errors ≡ l._tries) × FoldsTo (λ s e s'. goal.F-step g s (Err e) s') l.fn.step errors l.step;
}
