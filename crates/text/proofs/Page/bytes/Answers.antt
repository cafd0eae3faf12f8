-- As much as there is room for, copied at once.
use Rattle.std.proofs.Common.{arith, refl}
use Rattle.text.proofs.Putting.{put_text}
use Rattle.text.proofs.Page.bytes.Goals as goal

pub returns : goal.returns
returns c = record { put = put_text _ _ _ _ _ _ _ c.min-start.ensures c.min-n.ensures (omega arith) c.copy_from_slice.ensures.after; same = refl }
