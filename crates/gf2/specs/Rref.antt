-- The reduced form of any list of rows, computed. That it is the one that `ReducedForm` speaks of is proved in proofs/Rref.
use Rattle.std.specs.Prelude.{Bool, true, false, ◌||◌, ◌&&◌, not, List, [], ◌∷◌, ℕ, eqb, ltb}
use Rattle.gf2.specs.Rows.{bit, ◌⊕◌, pick}
use Rattle.gf2.specs.Reduced.{pivot}

-- v, its one in the column of w's pivot cleared by w
unfoldable pub clear : ℕ → ℕ → ℕ
unfolding pick pivot
clear w v = v ⊕ pick (bit (pivot w) v) w

-- v, cleared by each row of R
unfoldable pub clear_all : List ℕ → ℕ → ℕ
unfolding clear
clear_all [] v = v
clear_all (r ∷ R) v = clear_all R (clear r v)

-- w belongs above r: it is not zero, and r is zero or has its pivot further right
unfoldable pub above : ℕ → ℕ → Bool
unfolding pivot
above w r = not (eqb w 0) && (eqb r 0 || ltb (pivot w) (pivot r))

-- w above r and R, or below the cleared r, placed among R
unfoldable pub place_by : Bool → ℕ → ℕ → List ℕ → List ℕ → List ℕ
unfolding clear
place_by true w r R placed = w ∷ r ∷ R
place_by false w r R placed = clear w r ∷ placed

-- w put among the rows of R by its pivot, and the rows above it cleared by it
unfoldable pub place : ℕ → List ℕ → List ℕ
unfolding place_by above
place w [] = w ∷ []
place w (r ∷ R) = place_by (above w r) w r R (place w R)

unfoldable pub rref : List ℕ → List ℕ
unfolding place clear_all
rref [] = []
rref (v ∷ L) = let R = rref L in place (clear_all R v) R
