-- Each turn adds one row to the local row and stores the sum at its code; after the last every code has its sum.
use Rattle.engine.proofs.Sums.{small, joins_below, Codes, codes_start, codes_turn, codes_done, additions_done, Local, local_start, local_more}
use Rattle.engine.proofs.Tails.{spaced_row}
use Rattle.engine.specs.Stage.{spaced}
use Rattle.method.proofs.Gray.{gray_lt}
use Rattle.method.specs.Gray.{gray}
use Rattle.words.proofs.Parts.{length_part}
use Rattle.words.proofs.Rows.{row_end, rest_paste}
use Rattle.words.proofs.Value.{fits_fit, part_fits}
use Rattle.words.specs.Words.{rows_of}
use Rattle.gf2.specs.Rows.{row, part}
use Prim.Native.Nat.{ℕ, ◌+◌, ◌*◌, ◌^◌, ◌<◌, ◌≤◌}
use lib.Count.{count_trailing_zeros}
use lib.ListN.{length, drop}
use lib.Pow.{pow_pos}
use mathlib.Core.List.{List}
use mathlib.Core.Path.{◌≡◌, refl, sym, ap, ◌∙◌, subst}
use native.Mathlib.Omega.{arith}
use Rattle.engine.proofs.table.make.Goals as goal

pub loop-l-init : goal.loop-l-init
loop-l-init g c =
    let a = c.args in
    let P : List ℕ = spaced a.a a.w g.row.V a.r a.m.now in
    (codes_start P (row (rows_of g.row.V (2 ^ a.r) a.t.now)), local_start g.row.V P, refl, refl, refl)

pub step-requires : goal.step-requires
step-requires g c =
    let a = c.args in
    let l = c.loop-l in
    let hl : l.l < 2 ^ a.r = omega arith in
    let hz : count_trailing_zeros 64 l.l < a.r = joins_below a.r l.l c.requires.0 hl (omega arith) in
    (omega arith, (small a.r l.l c.requires.0 hl, c.requires.2 (count_trailing_zeros 64 l.l) hz, row_end l.t g.row.V (2 ^ a.r) (gray l.l) (omega arith) (gray_lt a.r l.l hl)))

pub loop-l-preserved : goal.loop-l-preserved
loop-l-preserved g c =
    let a = c.args in
    let l = c.loop-l in
    let k = c.step in
    let v : ℕ = g.row.V in
    let P : List ℕ = spaced a.a a.w v a.r a.m.now in
    let N : ℕ = 2 ^ a.r in
    let hl : l.l < 2 ^ a.r = omega arith in
    let x' : List ℕ = k.new.x in
    let z : ℕ = count_trailing_zeros 64 l.l in
    let hz : z < a.r = joins_below a.r l.l c.requires.0 hl (omega arith) in
    let at : ℕ = a.a + z * a.w in
    let ht : N * v ≤ length l.t = omega arith in
    let hg : gray l.l < N = gray_lt a.r l.l hl in
    let y : List ℕ = part at v a.m.now in
    let loc : Local v (l.l + 1) P x' =
    local_more v a.r l.l P y l.x x' c.requires.0 (omega arith) hl (length_part at v a.m.now (c.requires.2 z hz))
    (part_fits a.m.now at v (fits_fit a.m.now c.type_inv.m)) (sym (spaced_row a.a a.w v a.r a.m.now z hz)) k.ensures.0 l.invariant.1 in (
      codes_turn v N l.l P l.t k.new.t x' hg ht k.ensures.1 loc l.invariant.0,
      loc,
      ap (drop (N * v)) k.ensures.1 ∙ rest_paste v N (gray l.l) l.t x' hg ht loc.long ∙ l.invariant.2,
      k.auto.t ∙ l.invariant.3,
      omega arith,
    )

pub returns : goal.returns
returns g c =
    let a = c.args in
    let l = c.loop-l in
    let P : List ℕ = spaced a.a a.w g.row.V a.r a.m.now in
    let T : ℕ → ℕ = row (rows_of g.row.V (2 ^ a.r) l.t) in
    let e : l.l ≡ 2 ^ a.r = omega (arith, pow_pos a.r) in
    (omega (arith, additions_done a.r l.l e), codes_done a.r P T (subst (λ (q : ℕ). Codes q P T) e l.invariant.0), l.invariant.2)
