-- One column after the other.
use Rattle.std.proofs.Common.{refl, ◌∙◌}
use Rattle.text.specs.Text.{bits}
use Rattle.text.proofs.Putting.{put_none, put_column}
use Rattle.text.proofs.Page.bits.Goals as goal

pub loop-c-init : goal.loop-c-init
unfolding bits
loop-c-init c = record { put = put_none _ _ _ c.min-self.ensures; same = refl }

pub loop-c-preserved : goal.loop-c-preserved
loop-c-preserved c =
    let so_far = c.loop-c.invariant in
    record { put = put_column _ _ c.digit.ensures so_far.put c.byte.ensures.put; same = c.byte.ensures.same ∙ so_far.same }
