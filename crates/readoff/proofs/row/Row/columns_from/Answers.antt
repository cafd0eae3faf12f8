-- The columns fill a word, or the upper bits of a word and the lower bits of the next: window_word, window_words.
use mathlib.Core.Path.{◌≡◌, ap, ap₂, ◌∙◌}
use Prim.Native.Nat.{ℕ, ◌+◌, ◌-◌, ◌*◌, ◌/◌, ◌%◌, ◌^◌}
use borrow.Author.Rules.{rules}
use lib.Bits.{bit_or}
use lib.ListN.{get_or}
use Rattle.words.specs.Words.{window_bits}
use Rattle.words.proofs.First.{window_word, window_words}
use Rattle.readoff.proofs.row.Row.columns_from.Goals as goal

pub returns-then-s-eq0 : goal.returns-then-s-eq0
returns-then-s-eq0 c =
    let ws = c.self.inside.words.now in
    let k = c.args.c in
    let low : c.unwrap_or.result ≡ get_or ws (k / 64) 0 = search rules in
    ap (λ (x : ℕ). x / 2 ^ (k % 64)) low ∙ window_word ws k c.self.invariant.1 (search rules) ∙ ap (window_bits k 64) c.self.view_is

pub returns : goal.returns
returns c =
    let ws = c.self.inside.words.now in
    let k = c.args.c in
    let low : c.unwrap_or.result ≡ get_or ws (k / 64) 0 = search rules in
    let high : c.unwrap_or-2.result ≡ get_or ws (k / 64 + 1) 0 = search rules in
    ap₂ (λ (x y : ℕ). bit_or (x / 2 ^ (k % 64)) (y * 2 ^ (64 - k % 64) % 18446744073709551616)) low high
    ∙ window_words ws k c.self.invariant.1 ∙ ap (window_bits k 64) c.self.view_is
