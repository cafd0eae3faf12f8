-- A column is a bit of its word, and a row is the whole of its own words.
use mathlib.Core.Path.{◌≡◌, sym, ap, ◌∙◌}
use mathlib.Core.List.{List}
use Prim.Native.Nat.{ℕ, ◌+◌, ◌/◌, ◌%◌}
use native.Mathlib.Nat.{le_refl}
use mir.Val.{Fits}
use mir.Syntax.{w64}
use lib.ListN.{length, get_or}
use lib.Seq.{take_all}
use Rattle.gf2.specs.Rows.{bit, part}
use Rattle.words.specs.Words.{value}
use Rattle.words.proofs.Value.{column_bit, fits_fit}
use Rattle.text.proofs.digit.Goals as goal

column : (row : List ℕ) (c x : ℕ) → ((k : ℕ) → Fits w64 (get_or row k 0)) → x ≡ get_or (part 0 (length row) row) (c / 64) 0 → 48 + bit (c % 64) x ≡ 48 + bit c (value row)
column row c x f e =
    let whole : part 0 (length row) row ≡ row = take_all (length row) row (le_refl (length row)) in
    ap (λ (y : ℕ). 48 + y) (ap (bit (c % 64)) (e ∙ ap (λ (l : List ℕ). get_or l (c / 64) 0) whole) ∙ sym (column_bit row (fits_fit row f) c))

pub returns : goal.returns
returns c =
    let g = c.args in
    column g.row.now g.c _ c.type_inv.row c.word-word.ensures
