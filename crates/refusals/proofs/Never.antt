-- 9 and 10 are the number of no check: a call answers them only of what it finds out by reducing.
use mathlib.Core.Path.{◌≡◌, ap}
use mathlib.Core.Logic.{◌⊎◌, inl, inr}
use mathlib.Core.Bool.{Bool, true, false, not}
use mathlib.Core.List.{List}
use Prim.Native.Nat.{ℕ, ◌+◌, ◌-◌, ◌*◌, ◌^◌, ◌<◌}
use native.Mathlib.Omega.{arith}
use lib.Dec.{eqb, ltb, leb, lit<}
use lib.ListN.{length}
use Rattle.words.specs.Words.{words_of, holds_rows}
use Rattle.refusals.specs.declared.Refusal.{Refusal}
use Rattle.refusals.specs.declared.Refusal.TheVariants.{TooManyRows, BadColumns, BadK, WrongLength, DirtyPadding, ShortRoom, BadBlocks, NotSquare, NoInverse, Contradictory, WrongBuffer}
use Rattle.std.specs.Prelude.{Ok, Err}
use Rattle.refusals.specs.Outcome.{Outcome, number_of, outcome_number, refuse_if, ◌and_then◌, first}
use Rattle.refusals.specs.Checks.{too_many_rows, bad_columns, size_checks, bad_k, wrong_length, short_room, bad_blocks, not_square, wrong_buffer, wrong_marks, dirty_padding, inverse_shapes, inverse_order, inverse_checks, solving_shapes, solving_order, solving_checks}
use Rattle.refusals.proofs.Chain.{Each, chain}

-- the outcome is not this refusal
abbrev pub Never : Refusal → Outcome → Type 0
Never r o = o ≡ Err r → ⊥

-- r is 9 or 10
module _ (r : Refusal) (from : 8 < number_of r) (to : number_of r < 11) where
  not_if : (b : Bool) (x : Refusal) → (number_of x < 9) ⊎ (10 < number_of x) → Never r (refuse_if b x)
  not_if true x (inl l) e =
      let z : number_of x ≡ number_of r = ap outcome_number e in
      omega (arith, from, to, l, z)
  not_if true x (inr l) e =
      let z : number_of x ≡ number_of r = ap outcome_number e in
      omega (arith, from, to, l, z)
  not_if false x l e =
      let z : 0 ≡ number_of r = ap outcome_number e in
      omega (arith, from, z)

  nor : {o p : Outcome} → Never r o → Never r p → Never r (o and_then p)
  nor {o} {p} a b = go o a
    where
      go : (q : Outcome) → Never r q → Never r (q and_then p)
      go (Ok tt) h = b
      go (Err x) h = h

  -- nor is it that of checks in order
  none_of : (os : List Outcome) → Each (Never r) os (Never r (first os))
  none_of = chain (Never r) (λ o p. nor {o = o} {p = p}) (λ e. let z : 0 ≡ number_of r = ap outcome_number e in omega (arith, from, z))

  not_sizes : (rows columns : ℕ) → Never r (size_checks rows columns)
  unfolding size_checks too_many_rows bad_columns
  not_sizes rows columns =
      nor (not_if (ltb 512 rows) TooManyRows (inl (lit< tt))) (nor (not_if (eqb columns 0) BadColumns (inl (lit< tt))) (not_if (ltb 1024 columns) BadColumns (inl (lit< tt))))

  not_k : (k : ℕ) → Never r (bad_k k)
  unfolding bad_k
  not_k k = nor (not_if (eqb k 0) BadK (inl (lit< tt))) (not_if (ltb 8 k) BadK (inl (lit< tt)))

  not_blocks : (n columns : ℕ) → Never r (bad_blocks n columns)
  unfolding bad_blocks
  not_blocks n columns = nor (not_if (eqb n 0) BadBlocks (inl (lit< tt))) (not_if (leb columns n) BadBlocks (inl (lit< tt)))

  not_uneven : (rows columns : ℕ) → Never r (not_square rows columns)
  unfolding not_square
  not_uneven rows columns = not_if (not (eqb rows columns)) NotSquare (inl (lit< tt))

  not_length : (rows columns len : ℕ) → Never r (wrong_length rows columns len)
  unfolding wrong_length
  not_length rows columns len = not_if (not (eqb len (rows * words_of columns))) WrongLength (inl (lit< tt))

  not_buffer : (rows columns len : ℕ) → Never r (wrong_buffer rows columns len)
  unfolding wrong_buffer
  not_buffer rows columns len = not_if (not (eqb len (rows * words_of columns))) WrongBuffer (inr (lit< tt))

  not_marks : (n len : ℕ) → Never r (wrong_marks n len)
  unfolding wrong_marks
  not_marks n len = not_if (not (eqb len n)) WrongBuffer (inr (lit< tt))

  not_room : (more k columns room : ℕ) → Never r (short_room more k columns room)
  unfolding short_room
  not_room more k columns room = not_if (ltb room ((more + 2 ^ k) * words_of columns)) ShortRoom (inl (lit< tt))

  not_padding : (rows columns : ℕ) (m : List ℕ) → Never r (dirty_padding rows columns m)
  unfolding dirty_padding
  not_padding rows columns m = not_if (not (holds_rows rows columns m)) DirtyPadding (inl (lit< tt))

  not_inverse : (rows columns k : ℕ) (m : List ℕ) (result room : ℕ) → Never r (inverse_checks rows columns k m result room)
  not_inverse rows columns k m result room =
      none_of (inverse_order rows columns k m result room)
      (none_of (inverse_shapes rows columns k (length m) result)
      (not_sizes rows columns) (not_uneven rows columns) (not_k k) (not_length rows columns (length m)) (not_buffer rows columns result))
      (not_room rows k (rows + columns) room) (not_padding rows columns m)

  not_solving : (rows columns n k : ℕ) (m : List ℕ) (image marks room : ℕ) → Never r (solving_checks rows columns n k m image marks room)
  not_solving rows columns n k m image marks room =
      none_of (solving_order rows columns n k m image marks room)
      (none_of (solving_shapes rows columns n k (length m) image marks)
      (not_sizes rows columns) (not_blocks n columns) (not_k k) (not_length rows columns (length m)) (not_buffer n (columns - n) image) (not_marks n marks))
      (not_room 0 k columns room) (not_padding rows columns m)

pub inverse_never : (rows columns k : ℕ) (m : List ℕ) (result room : ℕ) → Never NoInverse (inverse_checks rows columns k m result room)
inverse_never = not_inverse NoInverse (lit< tt) (lit< tt)

pub solving_never : (rows columns n k : ℕ) (m : List ℕ) (image marks room : ℕ) → Never Contradictory (solving_checks rows columns n k m image marks room)
solving_never = not_solving Contradictory (lit< tt) (lit< tt)
