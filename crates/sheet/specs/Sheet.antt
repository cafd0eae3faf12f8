-- The sheet of examples P1 to P11: what is asked, what an answer means in the words of the calls' contracts, and the table. That each answer of the table
-- is right is one theorem, `sheet_holds` in proofs/Holds.
use Rattle.std.specs.Prelude.{◌≡◌, cond, List, [], ◌∷◌, map, ℕ, ◌+◌, ◌-◌, ◌*◌, ◌^◌, ◌<◌, eqb, length, Err}
use Prim.Native.Char.{code}
use Prim.Native.String.{String, [] as end, ◌∷◌ as ◌then◌}
use Rattle.gf2.specs.Rows.{Matrix}
use Rattle.gf2.specs.Reduced.{ReducedForm, pivots}
use Rattle.gf2.specs.Additions.{additions}
use Rattle.gf2.specs.Inverse.{Inverse}
use Rattle.images.specs.Packets.{Contradictory}
use Rattle.images.specs.ReadOff.{unknown_block}
use Rattle.refusals.specs.declared.Refusal.TheVariants as refusal
use Rattle.refusals.specs.Outcome.{number_of}
use Rattle.matrix.specs.Calls.{figures}
use Rattle.packets.specs.Solving.{Solved}
use Rattle.packets.specs.Contradiction.{Names}

-- ---- rows as they are spelled: column 0 first, a bar before the payload

unfoldable pub spelled : String → ℕ
spelled end = 0
spelled (c then s) = cond (eqb (code c) (code "|")) (spelled s) (code c - code "0" + 2 * spelled s)

unfoldable pub rows : List String → List ℕ
unfolding spelled
rows L = map spelled L

-- ---- questions and answers

pub data Question : Type 0 where
  -- the reduced form of rows of that many columns, its pivots, and the additions for each of some k
  ask_reduction : (columns : ℕ) (L ks : List ℕ) → Question
  -- the inverse of n rows of n columns
  ask_inverse : (n : ℕ) (A : List ℕ) → Question
  -- the blocks, of packets with n coefficients and p payload bits
  ask_solution : (n p : ℕ) (L : List ℕ) → Question
  -- packets that contradict each other
  ask_names : (n p : ℕ) (L : List ℕ) → Question

abbrev pub AnswerTo : Question → Type 0
-- the reduced form; its pivots; the additions, k by k
AnswerTo (ask_reduction columns L ks) = List ℕ × List ℕ × List ℕ
AnswerTo (ask_inverse n A) = List ℕ
-- the blocks, blank where unknown; their marks, 1 where known; how many are known
AnswerTo (ask_solution n p L) = List ℕ × List ℕ × ℕ
-- packet i is named if column i is 1
AnswerTo (ask_names n p L) = ℕ

infix 20 ◌gives◌
infix 20 ◌refused◌
pub data Example : Type 0 where
  ◌gives◌ : (q : Question) → AnswerTo q → Example
  ◌refused◌ : (q : Question) (number : ℕ) → Example

-- ---- what an example says, in the words of the contracts

-- no row has a one past the last column; a matrix to be inverted is square; there is a block, and a payload
abbrev pub Proper : Question → Type 0
Proper (ask_reduction columns L ks) = Matrix (length L) columns L
Proper (ask_inverse n A) = Matrix n n A
Proper (ask_solution n p L) = (0 < n) × (0 < p) × Matrix (length L) (n + p) L
Proper (ask_names n p L) = (0 < n) × (0 < p) × Matrix (length L) (n + p) L

abbrev pub Gives : (q : Question) → AnswerTo q → Type 0
Gives (ask_reduction columns L ks) (R, ps, added) = ReducedForm L R × (pivots R ≡ ps) × (map (λ k. additions k columns R) ks ≡ added)
Gives (ask_inverse n A) X = Inverse n A X
Gives (ask_solution n p L) (image, marks, known) = Solved unknown_block n p L image marks known
Gives (ask_names n p L) c = Names n p L c

-- 9: there is no inverse. 10: no image meets the packets, and the answer beside the number has no known block. No other proper question is refused.
abbrev pub Refuses : Question → ℕ → Type 0
Refuses (ask_reduction columns L ks) number = ⊥
Refuses (ask_inverse n A) number = ((X : List ℕ) → Inverse n A X → ⊥) × (number ≡ number_of refusal.NoInverse)
Refuses (ask_solution n p L) number =
    Contradictory n p L × (number ≡ number_of refusal.Contradictory) × ((figures (Err refusal.Contradictory)).known ≡ 0)
Refuses (ask_names n p L) number = ⊥

abbrev pub Holds : Example → Type 0
Holds (q gives a) = Proper q × Gives q a
Holds (q refused number) = Proper q × Refuses q number

pub data AllHold : List Example → Type 0 where
  no_more : AllHold []
  and : {e : Example} {es : List Example} → Holds e → AllHold es → AllHold (e ∷ es)

-- ---- the table

-- the packets of P6, P7, P8 and P9
p6 : List String
p6 = "110|10" ∷ "011|01" ∷ []

p7 : List String
p7 = "110|10" ∷ "011|01" ∷ "001|11" ∷ []

p8 : List String
p8 = "110|10" ∷ "110|10" ∷ "001|11" ∷ []

p9 : List String
p9 = "110|10" ∷ "011|01" ∷ "101|10" ∷ []

unfoldable pub sheet : List Example
unfolding rows p6 p7 p8 p9
sheet =
    -- P1
    (ask_reduction 2 (rows ("11" ∷ "10" ∷ [])) (1 ∷ 2 ∷ []) gives (rows ("10" ∷ "01" ∷ []), 0 ∷ 1 ∷ [], 2 ∷ 3 ∷ []))
    -- P2
    ∷ (ask_reduction 3 (rows ("011" ∷ "011" ∷ "000" ∷ [])) (2 ∷ []) gives (rows ("011" ∷ "000" ∷ "000" ∷ []), 1 ∷ [], 1 ∷ []))
    -- P3, for every k
    ∷ (ask_reduction 5 [] (1 ∷ 2 ∷ 3 ∷ 4 ∷ 5 ∷ 6 ∷ 7 ∷ 8 ∷ []) gives ([], [], 0 ∷ 0 ∷ 0 ∷ 0 ∷ 0 ∷ 0 ∷ 0 ∷ 0 ∷ []))
    -- P4
    ∷ (ask_reduction 3 (rows ("110" ∷ "011" ∷ "101" ∷ [])) [] gives (rows ("101" ∷ "011" ∷ "000" ∷ []), 0 ∷ 1 ∷ [], []))
    ∷ (ask_inverse 3 (rows ("110" ∷ "011" ∷ "101" ∷ [])) refused 9)
    -- P5
    ∷ (ask_inverse 3 (rows ("110" ∷ "011" ∷ "001" ∷ [])) gives rows ("111" ∷ "011" ∷ "001" ∷ []))
    -- P6
    ∷ (ask_solution 3 2 (rows p6) gives (rows ("00" ∷ "00" ∷ "00" ∷ []), 0 ∷ 0 ∷ 0 ∷ [], 0))
    -- P7
    ∷ (ask_solution 3 2 (rows p7) gives (rows ("00" ∷ "10" ∷ "11" ∷ []), 1 ∷ 1 ∷ 1 ∷ [], 3))
    -- P8
    ∷ (ask_solution 3 2 (rows p8) gives (rows ("00" ∷ "00" ∷ "11" ∷ []), 0 ∷ 0 ∷ 1 ∷ [], 1))
    -- P9
    ∷ (ask_solution 3 2 (rows p9) refused 10)
    ∷ (ask_reduction 5 (rows p9) [] gives (rows ("10110" ∷ "01100" ∷ "00001" ∷ []), 0 ∷ 1 ∷ 4 ∷ [], []))
    ∷ (ask_names 3 2 (rows p9) gives spelled "111")
    -- P10, both halves
    ∷ (ask_solution 3 2 (rows ("000|01" ∷ [])) refused 10)
    ∷ (ask_solution 3 2 (rows ("000|00" ∷ [])) gives (rows ("00" ∷ "00" ∷ "00" ∷ []), 0 ∷ 0 ∷ 0 ∷ [], 0))
    -- P11: ones at 1 and 70, and at 1 and 71
    ∷ (ask_reduction 72 ((2 ^ 1 + 2 ^ 70) ∷ (2 ^ 1 + 2 ^ 71) ∷ []) [] gives ((2 ^ 1 + 2 ^ 71) ∷ (2 ^ 70 + 2 ^ 71) ∷ [], 1 ∷ 70 ∷ [], []))
    ∷ []
