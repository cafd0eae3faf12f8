-- The step may be called again, and one try more has failed.
use Rattle.std.proofs.Common.{refl, subst, ap, ◌∙◌, ◌+◌, ◌++◌, ◌∷◌, [], length-append}
use Rattle.std.proofs.lemmas.Fn.{FoldsTo-push}
use Rattle.std.specs.Fn.{Called}
use denote.Param.Always.{mut_next}
use Rattle.stream.proofs.patiently.Goals as goal

pub loop-tries-preserved : goal.loop-tries-preserved
loop-tries-preserved g c =
    let failed = c.loop-tries.invariant.failed in
    record {
      callable = mut_next g.F.FnMut _ _ _ _ _ c.step.ensures refl c.loop-tries.invariant.callable;
      failed = (
        failed.0 ++ c.in-Err.e ∷ [],
        length-append failed.0 (c.in-Err.e ∷ []) ∙ ap (λ n. n + 1) failed.1,
        FoldsTo-push _ _ failed.0 _ c.in-Err.e _ failed.2 (subst (λ r. Called g.F.FnMut c.loop-tries.step tt r c.step.new.self) c.in-Err.is c.step.ensures),
      );
    }
