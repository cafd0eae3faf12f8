-- The digits that spell the number.
use Rattle.std.proofs.Common.{ℕ, List, ◌<◌, ◌^◌, ◌∙◌, subst, arith}
use Rattle.text.specs.Put.{Written}
use Rattle.text.proofs.Digits.{fewest_decimal}
use Rattle.text.proofs.Page.decimal.Goals as goal

pub returns : goal.returns
returns c =
    let n = c.args.n in
    let small : n < 2 ^ 64 = omega arith in
    subst (λ (t : List ℕ). Written t c.args.self.now c.bytes.new.self) (c.decimal-k.ensures.digits ∙ fewest_decimal n c.decimal-k.result small c.decimal-k.ensures.len) c.bytes.ensures
