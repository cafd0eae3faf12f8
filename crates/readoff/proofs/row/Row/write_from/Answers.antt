-- Each word is as it has to be: first_is.
use mathlib.Core.Path.{sym, ◌∙◌}
use Prim.Native.Nat.{◌*◌, ◌/◌, ◌^◌}
use native.Mathlib.Omega.{arith}
use lib.ListN.{length}
use Rattle.words.proofs.First.{first_is, window_shift}
use borrow.Author.Rules.{rules}
use Rattle.readoff.proofs.row.Row.write_from.Goals as goal

pub returns : goal.returns
returns c =
    let g = c.args in
    first_is (length g.to.now) (g.self.now / 2 ^ g.c) c.loop-l.to (search rules)
    (λ l h. c.loop-l.invariant l (omega arith) ∙ sym (window_shift g.c (64 * l) g.self.now))
