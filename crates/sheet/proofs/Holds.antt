-- The sheet holds: the computed answer to each of its questions is right, and it is the one that stands in the table. The checker computes them.
use mathlib.Core.Path.{◌≡◌, refl, subst}
use mathlib.Core.Bool.{Bool, true, ◌&&◌}
use mathlib.Core.List.{List, [], ◌∷◌, map}
use Rattle.sheet.specs.Sheet.{Question, Example, ◌gives◌, ◌refused◌, AllHold, no_more, and, sheet}
use Rattle.sheet.proofs.Computed.{answered, answerable, both, answer_holds}

abbrev question : Example → Question
question (q gives a) = q
question (q refused number) = q

all_answerable : List Question → Bool
all_answerable [] = true
all_answerable (q ∷ qs) = answerable q && all_answerable qs

all_hold : (qs : List Question) → all_answerable qs ≡ true → AllHold (map answered qs)
unfolding all_answerable
all_hold [] e = no_more
all_hold (q ∷ qs) e = let t = both (answerable q) (all_answerable qs) e in and (answer_holds q t.0) (all_hold qs t.1)

sheet_answerable : all_answerable (map question sheet) ≡ true
unfolding all_answerable answerable sheet
sheet_answerable = refl

sheet_answered : map answered (map question sheet) ≡ sheet
unfolding answered sheet
sheet_answered = refl

-- every example of the table holds
pub sheet_holds : AllHold sheet
sheet_holds = subst AllHold sheet_answered (all_hold (map question sheet) sheet_answerable)
