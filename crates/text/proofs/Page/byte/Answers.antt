-- A byte is put, or there is no room for it.
use Rattle.std.proofs.Common.{refl}
use Rattle.text.proofs.Putting.{put_byte, put_full}
use Rattle.text.proofs.Page.byte.Goals as goal

pub returns-then-self-len : goal.returns-then-self-len
returns-then-self-len c = record { put = put_byte _ _ _ c.if-self-len.true; same = refl }

pub returns-else-self-len : goal.returns-else-self-len
returns-else-self-len c = record { put = put_full _ _ _ c.if-self-len.false; same = refl }
