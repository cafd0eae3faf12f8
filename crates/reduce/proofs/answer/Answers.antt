-- The buffers are as long as the report asks for, and what is written is the report.
use Rattle.std.proofs.Common.{rules, ℕ, ◌≤◌, length, replicate, sym, subst, length-take-le}
use Rattle.std.proofs.lemmas.List.{length-replicate}
use Rattle.std.proofs.lemmas.Result.{on_ok_weaker, on_err_weaker}
use lib.Dec.{lit≤}
use Rattle.std.specs.Io.KnownBytes.{Appends}
use Rattle.stream.specs.Stream.{AppendsFront}
use Rattle.reduce.proofs.Short.{report_ends, report_front}
use Rattle.reduce.proofs.answer.Goals as goal

-- the bytes of the buffer
unfoldable made : ℕ
made = 544768

-- A list of so many is never counted one by one: that goes deeper than the checker can.
long_enough : (n : ℕ) → 544768 ≤ n → 544768 ≤ length (replicate {0} {A = ℕ} n 0)
long_enough n h = subst (λ (k : ℕ). 544768 ≤ k) (sym (length-replicate {0} {A = ℕ} n 0)) h

pub slice_bounds-whole-end-3 : goal.slice_bounds-whole-end-3
unfolding made
slice_bounds-whole-end-3 g c = sym (length-replicate {0} {A = ℕ} made 0)

pub whole-end-requires : goal.whole-end-requires
unfolding made
whole-end-requires g c = (search rules, search rules, long_enough made (lit≤ tt))

pub slice_bounds-out-end : goal.slice_bounds-out-end
slice_bounds-out-end g c = report_ends _ _ c.whole-end.new.out c.whole-end.result c.whole-end.ensures.0 c.whole-end.ensures.1

pub slice_bounds-write-end : goal.slice_bounds-write-end
slice_bounds-write-end g c = sym (length-take-le c.whole-end.result c.whole-end.new.out (report_ends _ _ c.whole-end.new.out c.whole-end.result c.whole-end.ensures.0 c.whole-end.ensures.1))

pub returns-clause-whole : goal.returns-clause-whole
returns-clause-whole g c =
    on_ok_weaker _ (subst (Appends _ _) (report_front _ _ c.whole-end.new.out c.whole-end.result c.whole-end.ensures.0 c.whole-end.ensures.1)) c.write.ensures.whole

pub returns-clause-begun : goal.returns-clause-begun
returns-clause-begun g c =
    on_err_weaker _ (subst (AppendsFront _ _) (report_front _ _ c.whole-end.new.out c.whole-end.result c.whole-end.ensures.0 c.whole-end.ensures.1)) c.write.ensures.begun
