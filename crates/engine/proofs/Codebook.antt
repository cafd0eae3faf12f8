-- The codebook's rule, for all of its entries at once: the table is the list of the codes of 0 to 255, which antt computes.
use Rattle.gf2.specs.Rows.{tabulate}
use Rattle.gf2.proofs.Products.{tabulate_row}
use Rattle.method.specs.Gray.{gray}
use Rattle.engine.specs.Stage.{Book}

pub book : Book (tabulate 256 gray)
book t h = tabulate_row 256 gray t h
