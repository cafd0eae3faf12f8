-- Four numbers put one after the other are the ten bytes.
use Rattle.pack.proofs.Splices.{head_steps}
use Rattle.pack.proofs.put.head.Goals as goal

pub returns : goal.returns
returns c = let g = c.args in cc (head_steps g.at g.kind g.rows g.columns g.offset g.out.now c.requires)
