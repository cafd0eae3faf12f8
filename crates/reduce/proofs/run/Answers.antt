-- What was read decides the report, written whole or in part.
use Rattle.std.proofs.Common.{rules, ◌≡◌, ℕ, length, replicate, Ok}
use Rattle.std.proofs.lemmas.List.{length-replicate}
use Rattle.std.specs.Io.KnownBytes.{Appends}
use Rattle.stream.specs.Stream.{AppendsFront}
use Rattle.reduce.proofs.Whole.{of_whole, still_ok, still_failed}
use Rattle.reduce.proofs.run.Goals as goal

-- the buffer that is read into
lent : length (replicate {0} {A = ℕ} 65536 0) ≡ 65536
lent = length-replicate {0} {A = ℕ} 65536 0

pub returns-clause-written : goal.returns-clause-written
returns-clause-written g c =
    let came : c.read.result ≡ Ok c.in_ok-n.n = search rules in
    still_ok _ _ c.map_err-2.ensures.variant (of_whole (Appends _ _) _ _ came _ _ c.read.auto.buffer lent c.read.ensures.within c.read.ensures.bytes) c.answer.ensures.whole

pub returns-clause-not_written : goal.returns-clause-not_written
returns-clause-not_written g c broken =
    let came : c.read.result ≡ Ok c.in_ok-n.n = search rules in
    still_failed _ _ _ c.map_err-2.ensures.variant broken (of_whole (AppendsFront _ _) _ _ came _ _ c.read.auto.buffer lent c.read.ensures.within c.read.ensures.bytes) c.answer.ensures.begun
