-- The answer to any question can be computed: it is read off the computed reduced form, and what is read off a reduced form is what the contracts speak of.
use mathlib.Core.Path.{◌≡◌, refl, sym, subst}
use mathlib.Core.Bool.{Bool, true, false, ◌&&◌, not}
use mathlib.Core.List.{List, map}
use Prim.Native.Nat.{ℕ, ◌+◌, ◌<◌}
use borrow.Author.Tests.{eqb-true, eqb-false, ltb-true, not-true}
use lib.Dec.{T, eqb, ltb}
use lib.ListN.{length}
use lib.Pow.{pow_pos}
use Rattle.gf2.specs.Rows.{Matrix, tabulate}
use Rattle.gf2.specs.Reduced.{ReducedForm, pivots}
use Rattle.gf2.specs.Rref.{rref}
use Rattle.gf2.specs.Additions.{total_to, table_additions, additions}
use Rattle.gf2.specs.Inverse.{adjoin, right_of, same, begins_with_identity}
use Rattle.gf2.proofs.Rref.{rref_form}
use Rattle.gf2.proofs.Inverse.{begins_true, right_half, inverse_exists}
use Rattle.images.specs.ReadOff.{has_pivot, contradictory, unknown_block, shown, mark, marked, named}
use Rattle.images.proofs.Named.{named_contradicts, named_narrow}
use Rattle.refusals.specs.declared.Refusal.TheVariants as refusal
use Rattle.refusals.specs.Outcome.{number_of}
use Rattle.words.specs.Words.{narrow}
use Rattle.words.proofs.Padding.{narrow_row}
use Rattle.packets.proofs.Images.{unmet, solved}
use Rattle.sheet.specs.Sheet.{Question, ask_reduction, ask_inverse, ask_solution, ask_names, AnswerTo, Example, ◌gives◌, ◌refused◌, Proper, Holds}

-- ---- the computed answer

-- given where the test holds, else refused with that number
unfoldable pub given_if : Bool → (q : Question) → AnswerTo q → ℕ → Example
given_if true q a number = q gives a
given_if false q a number = q refused number

unfoldable pub answered : Question → Example
unfolding rref pivots total_to table_additions tabulate same adjoin has_pivot shown mark marked named given_if
answered (ask_reduction columns L ks) = let R = rref L in ask_reduction columns L ks gives (R, pivots R, map (λ k. additions k columns R) ks)
answered (ask_inverse n A) = let R = rref (adjoin n A) in given_if (begins_with_identity n R) (ask_inverse n A) (right_of n R) (number_of refusal.NoInverse)
answered (ask_solution n p L) =
    let R = rref L in
    let marks = tabulate n (mark n R) in
    given_if (not (contradictory n p R)) (ask_solution n p L) (tabulate n (shown unknown_block n R), marks, marked marks) (number_of refusal.Contradictory)
answered (ask_names n p L) = ask_names n p L gives named n p (rref (adjoin (n + p) L))

-- ---- the test of a question

abbrev are_packets : ℕ → ℕ → List ℕ → Bool
are_packets n p L = ltb 0 n && (ltb 0 p && narrow (n + p) L)

-- it is proper, and where packets are to be named some are
unfoldable pub answerable : Question → Bool
unfolding rref adjoin named narrow
answerable (ask_reduction columns L ks) = narrow columns L
answerable (ask_inverse n A) = eqb (length A) n && narrow n A
answerable (ask_solution n p L) = are_packets n p L
answerable (ask_names n p L) = are_packets n p L && not (eqb (named n p (rref (adjoin (n + p) L))) 0)

pub both : (a b : Bool) → a && b ≡ true → (a ≡ true) × (b ≡ true)
both true b e = (refl, e)
both false b e = absurd (subst T (sym e) tt)

are_packets_lem : (n p : ℕ) (L : List ℕ) → are_packets n p L ≡ true → (0 < n) × (0 < p) × Matrix (length L) (n + p) L
are_packets_lem n p L e =
    let a = both (ltb 0 n) (ltb 0 p && narrow (n + p) L) e in
    let b = both (ltb 0 p) (narrow (n + p) L) a.1 in
    (ltb-true 0 n a.0, ltb-true 0 p b.0, record { size = refl; narrow = narrow_row (n + p) L b.1 })

-- ---- it is the answer that is meant

inversion_holds : (n : ℕ) (A : List ℕ) → Matrix n n A → Holds (answered (ask_inverse n A))
unfolding answered given_if
inversion_holds n A hA = go (begins_with_identity n R) refl
  where
    R : List ℕ
    R = rref (adjoin n A)

    go : (b : Bool) → begins_with_identity n R ≡ b → Holds (given_if b (ask_inverse n A) (right_of n R) (number_of refusal.NoInverse))
    go true e = (hA, right_half n A R hA (rref_form (adjoin n A)) ((begins_true n R).0 (subst T (sym e) tt)))
    go false e = (hA, ((λ X i. subst T e ((inverse_exists n A R hA (rref_form (adjoin n A))).0 (X, i))), refl))

solving_holds : (n p : ℕ) (L : List ℕ) → Proper (ask_solution n p L) → Holds (answered (ask_solution n p L))
unfolding answered given_if
solving_holds n p L h = go (contradictory n p R) refl
  where
    R : List ℕ
    R = rref L

    image : List ℕ
    image = tabulate n (shown unknown_block n R)

    marks : List ℕ
    marks = tabulate n (mark n R)

    go : (b : Bool) → contradictory n p R ≡ b → Holds (given_if (not b) (ask_solution n p L) (image, marks, marked marks) (number_of refusal.Contradictory))
    go true e = (h, (unmet n p L R h.2.narrow (rref_form L) (subst T (sym e) tt), refl, refl))
    go false e = (h, solved n p L R h.2.narrow (rref_form L) unknown_block (pow_pos p) h.1 (subst T e) image marks (marked marks) refl refl refl)

naming_holds : (n p : ℕ) (L : List ℕ) → Proper (ask_names n p L) → (named n p (rref (adjoin (n + p) L)) ≡ 0 → ⊥) → Holds (answered (ask_names n p L))
unfolding answered
naming_holds n p L h some =
    let R : List ℕ = rref (adjoin (n + p) L) in
    let form : ReducedForm (adjoin (n + p) L) R = rref_form (adjoin (n + p) L) in (
      h,
      record {
        form = R;
        reduced = form;
        names = refl;
        among = named_narrow n p L R h.2.narrow form.reduced form.space;
        contradicts = named_contradicts n p L R h.2.narrow form.reduced form.space some;
      },
    )

pub answer_holds : (q : Question) → answerable q ≡ true → Holds (answered q)
unfolding answerable answered
answer_holds (ask_reduction columns L ks) e = (record { size = refl; narrow = narrow_row columns L e }, (rref_form L, refl, refl))
answer_holds (ask_inverse n A) e =
    let t = both (eqb (length A) n) (narrow n A) e in
    inversion_holds n A (record { size = eqb-true (length A) n t.0; narrow = narrow_row n A t.1 })
answer_holds (ask_solution n p L) e = solving_holds n p L (are_packets_lem n p L e)
answer_holds (ask_names n p L) e =
    let c : ℕ = named n p (rref (adjoin (n + p) L)) in
    let t = both (are_packets n p L) (not (eqb c 0)) e in
    naming_holds n p L (are_packets_lem n p L t.0) (eqb-false c 0 (not-true (eqb c 0) t.1))
