-- What came so far fits, and stands at the buffer's front.
use Rattle.std.proofs.Common.{◌≡◌, length, take, ◌-◌, ◌≤◌}
use Rattle.std.specs.Io.KnownBytes.{Consumes}
use Rattle.stream.proofs.read.Given as goal

abbrev pub invariant-loop-at : goal.invariant-loop-at
invariant-loop-at g l = record {
  within : l.at ≤ length l.fn.buffer;
  same : length l.buffer ≡ length l.fn.buffer;
  came : Consumes (g.R.Read.remaining l.fn.stream) (g.R.Read.remaining l.stream) (take l.at l.buffer);
}

abbrev pub decreases-loop-at : goal.decreases-loop-at
decreases-loop-at g l = length l.fn.buffer - l.at
