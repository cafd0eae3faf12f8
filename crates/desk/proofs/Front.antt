-- An entry that is found, at the front of the words lent: unpacked and reduced there, or too little room for it.
use mathlib.Core.Path.{◌≡◌, refl, sym, ap, ap₂, ◌∙◌, subst}
use mathlib.Core.Bool.{Bool, true, false, ◌&&◌}
use mathlib.Core.List.{List, ◌++◌}
use mathlib.Core.Logic.{◌⊎◌, inl, inr}
use Prim.Native.Nat.{ℕ, ◌*◌, ◌<◌, ◌≤◌}
use lib.Dec.{leb}
use native.Mathlib.Omega.{arith}
use native.Mathlib.Nat.{mul-le-mul_right}
use lib.ListN.{length, take, drop}
use lib.Seq.{length-take-le, take_at}
use borrow.Author.Tests.{eq-eqb, le-leb, lt-leb}
use Rattle.std.specs.Prelude.{Result, Ok, Err}
use Rattle.gf2.specs.Reduced.{rank}
use Rattle.gf2.specs.Additions.{additions}
use Rattle.gf2.specs.Rref.{rref}
use Rattle.words.specs.Words.{Fit, words_of, rows_of, flat}
use Rattle.words.proofs.Value.{fit_take}
use Rattle.refusals.specs.declared.Refusal.{Refusal}
use Rattle.refusals.specs.Checks.{Sized}
use Rattle.matrix.specs.declared.Answer.{Answer}
use Rattle.matrix.specs.Calls.{reduced_answer, Reduction, TableCleared, ReductionPromised}
use Rattle.bundle.specs.Bundle.{Entry, body_words, both_kinds, meaning}
use Rattle.bundle.specs.declared.Numbers.{Numbers}
use Rattle.bundle.specs.Answers.{Lookup, find, told_of, fitting, lent_for, lent_entry, unpacked_of}
use Rattle.desk.specs.declared.Figures.{Figures}
use Rattle.desk.specs.declared.NotReduced.{NotReduced}
use Rattle.desk.specs.declared.NotReduced.TheVariants.{Refused, Unfit}
use Rattle.desk.specs.Desk.{window_columns, table_rows, reduced_of, room_for, ReducedBy, ReducedFound, ReducedEntry}
use Rattle.desk.proofs.Sound.{Sound, found_sound}
use Rattle.desk.proofs.Form.{passes, form_rows, form_words}

-- the words of a body are few
pub few_words : (rows columns w : ℕ) → Sized 512 rows columns → w ≡ words_of columns → rows * w ≤ 8192
few_words rows columns w s e = omega (arith, mul-le-mul_right w s.few, s.wide, e)

-- none is found, and so it is told
pub not_found : (F : Lookup) (x : Refusal) (words room : List ℕ) → Err x ≡ told_of F → ReducedFound F words room (Err (Refused x)) words room
unfolding told_of
not_found (Ok e) x words room q = absurd (cc)
not_found (Err y) x words room q =
    let z : x ≡ y = cc in
    (ap (λ (r : Refusal). Err (Refused r)) z, refl, refl)

-- entry i is found, and has that many rows and columns, and rows of w words
pub record Held (i : ℕ) (b : List ℕ) (rows columns w : ℕ) : Type 0 where
  pub kind : ℕ
  pub matrix : List ℕ
  pub there : find i (meaning both_kinds b) ≡ Ok (record { kind = kind; rows = rows; columns = columns; matrix = matrix })
  pub width : w ≡ words_of columns

pub held : (i : ℕ) (b : List ℕ) {n : Numbers} {rows columns w : ℕ} → Ok n ≡ told_of (find i (meaning both_kinds b)) → rows ≡ n.rows → columns ≡ n.columns → w ≡ words_of columns → Held i b rows columns w
unfolding told_of
held i b {n} {rows} {columns} {w} told er ec ew = go (find i (meaning both_kinds b)) refl told
  where
    go : (F : Lookup) → find i (meaning both_kinds b) ≡ F → Ok n ≡ told_of F → Held i b rows columns w
    go (Err x) eF q = absurd (cc)
    go (Ok e) eF q =
        let same : n ≡ record { kind = e.kind; rows = e.rows; columns = e.columns } = cc in
        let r : e.rows ≡ rows = sym (er ∙ ap (λ (m : Numbers). m.rows) same) in
        let c : e.columns ≡ columns = sym (ec ∙ ap (λ (m : Numbers). m.columns) same) in
        record { kind = e.kind; matrix = e.matrix; there = eF ∙ ap₂ (λ (x y : ℕ). Ok (record { kind = e.kind; rows = x; columns = y; matrix = e.matrix })) r c; width = ew }

module _ {i : ℕ} {b : List ℕ} {rows columns w : ℕ} (h : Held i b rows columns w) (words room : List ℕ) where
  e : Entry
  e = record { kind = h.kind; rows = rows; columns = columns; matrix = h.matrix }

  s : Sound e
  unfolding e
  s = found_sound both_kinds i b e h.there

  size : rows * w ≡ body_words rows columns
  unfolding body_words
  size = ap (λ (x : ℕ). rows * x) h.width

  table : 16 * w ≡ table_rows * words_of columns
  table = ap (λ (x : ℕ). 16 * x) h.width

  no_room : (length words < rows * w) ⊎ (length room < 16 * w) → room_for e words room ≡ false
  unfolding e room_for
  no_room (inl short) = ap (λ (t : Bool). t && leb (table_rows * words_of columns) (length room)) (lt-leb (body_words rows columns) (length words) (omega (arith, size)))
  no_room (inr short) = none (leb (body_words rows columns) (length words)) (lt-leb (table_rows * words_of columns) (length room) (omega (arith, table)))
    where
      none : (t : Bool) {u : Bool} → u ≡ false → (t && u) ≡ false
      none true q = q
      none false q = refl

  pub unfit : (length words < rows * w) ⊎ (length room < 16 * w) → ReducedEntry i b words room (Err Unfit) words room
  unfolding e
  unfit short =
      subst (λ (F : Lookup). ReducedFound F words room (Err Unfit) words room) (sym h.there)
      (subst (λ (t : Bool). ReducedBy t e words room (Err Unfit) words room) (sym (no_room short)) (refl, refl, refl))

  module _ (enough : rows * w ≤ length words) (roomy : 16 * w ≤ length room) where
    fits : room_for e words room ≡ true
    unfolding e room_for
    fits =
        ap₂ ◌&&◌ (le-leb (body_words rows columns) (length words) (omega (arith, size))) (le-leb (table_rows * words_of columns) (length room) (omega (arith, table)))

    -- as many words are lent as the body has
    front : List ℕ
    front = take (rows * w) words

    whole : length front ≡ body_words rows columns
    unfolding front
    whole = length-take-le (rows * w) words enough ∙ size

    lent : lent_entry both_kinds i b front ≡ Ok e
    unfolding e lent_for
    lent = ap (lent_for (length front)) h.there ∙ ap (λ (t : Bool). fitting t e) (eq-eqb (length front) (body_words rows columns) whole)

    pub is_lent : (x : Refusal) → Err x ≡ told_of (lent_entry both_kinds i b (take (rows * w) words)) → ⊥
    unfolding told_of front
    is_lent x q = cc (ap told_of lent)

    module _ (laid : List ℕ) (unpacked : laid ≡ unpacked_of (lent_entry both_kinds i b (take (rows * w) words)) (take (rows * w) words)) (a : Result Answer Refusal) (left room' : List ℕ)
        (promised : ReductionPromised rows columns window_columns laid room a left room') where
      laid_out : laid ≡ flat (words_of columns) h.matrix
      unfolding e unpacked_of front
      laid_out = unpacked ∙ ap (λ (F : Lookup). unpacked_of F front) lent

      done : Reduction (additions window_columns columns) rows columns laid a left × TableCleared columns window_columns room room'
      unfolding e
      done = promised.past (passes e s laid (length room) laid_out (omega (arith, table)))

      pub is_reduced : (x : Refusal) → a ≡ Err x → ⊥
      is_reduced x q = cc (done.0.answered)

      form : rows_of (words_of columns) rows left ≡ rref h.matrix
      unfolding e
      form = form_rows e s laid left laid_out done.0.reduced

      pub reduced : (t : Answer) → a ≡ Ok t → length left ≡ length (take (rows * w) words) → Fit (left ++ drop (rows * w) words)
          → ReducedEntry i b words room (Ok (record { rows = rows; columns = columns; rank = t.rank; additions = t.additions })) (left ++ drop (rows * w) words) room'
      unfolding e front reduced_of
      reduced t et len fit =
          let told : Result Figures NotReduced = Ok (record { rows = rows; columns = columns; rank = t.rank; additions = t.additions }) in
          let same : t ≡ reduced_answer (additions window_columns columns) (rows_of (words_of columns) rows left) = cc (done.0.answered) in
          subst (λ (F : Lookup). ReducedFound F words room told (left ++ drop (rows * w) words) room') (sym h.there)
          (subst (λ (x : Bool). ReducedBy x e words room told (left ++ drop (rows * w) words) room') (sym fits) (
            ap₂ (λ (x y : ℕ). Ok (record { rows = rows; columns = columns; rank = x; additions = y })) (ap (λ (x : Answer). x.rank) same ∙ ap rank form) (ap (λ (x : Answer). x.additions) same ∙ ap (additions window_columns columns) form),
            ap₂ (λ (l : List ℕ) (n : ℕ). l ++ drop n words) (form_words e s laid left laid_out done.0.reduced (len ∙ whole) (subst Fit (take_at left (drop (rows * w) words) (rows * w) (len ∙ length-take-le (rows * w) words enough)) (fit_take (rows * w) (left ++ drop (rows * w) words) fit))) size,
            done.1,
          ))
