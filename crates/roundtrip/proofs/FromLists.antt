-- What the writer takes, it writes so that reading gives it back: the lists it takes are those of proper entries.
use mathlib.Core.Path.{◌≡◌, refl, sym, ap, ◌∙◌, subst}
use mathlib.Core.Bool.{Bool, true, false, ◌&&◌}
use mathlib.Core.List.{List, [], ◌∷◌}
use Prim.Native.Nat.{ℕ, zero, suc, ◌+◌, ◌*◌, ◌<◌, ◌≤◌}
use native.Mathlib.Omega.{arith}
use lib.Dec.{T}
use lib.ListN.{length, take, drop, get_or, length-drop}
use lib.Seq.{drop-drop}
use borrow.Author.Tests.{eq-eqb}
use Rattle.words.specs.Words.{Fit, words_of, rows_of, narrow}
use Rattle.words.proofs.Value.{fit_drop}
use Rattle.words.proofs.Rows.{length_rows}
use Rattle.words.proofs.Flat.{flat_rows}
use Rattle.std.specs.Prelude.{Ok}
use Rattle.refusals.specs.Outcome.{Outcome, ◌and_then◌}
use Rattle.refusals.proofs.Passed.{then_done}
use Rattle.bundle.specs.Bundle.{Entry, body_words, bad_shape, meaning}
use Rattle.bundle.specs.Answers.{counted_in, Lookup, fitting, entry_in, find, told_of, lent_for, lent_entry, unpacked_of}
use Rattle.bundle.proofs.Passing.{shaped}
use Rattle.pack.specs.Encode.{encode}
use Rattle.pack.specs.Writing.{given, shapes_checks, all_words, all_narrow, write_checks, Writable}
use Rattle.pack.proofs.Lengths.{count_given, length_encode}
use Rattle.pack.proofs.Passing.{writable}
use Rattle.roundtrip.specs.Trips.{start_of}
use Rattle.roundtrip.proofs.FromEntries.{Propers, none, one, read_again}
use Rattle.bundle.proofs.Exactly.{means}

and_both : (a b : Bool) → (a && b) ≡ true → (a ≡ true) × (b ≡ true)
and_both true b e = (refl, e)
and_both false b e = absurd (subst T (sym e) tt)

propers_given : (rule : ℕ → Outcome) (ks rs cs ws : List ℕ) → ((i : ℕ) → get_or ks i 0 < 65536) → shapes_checks rule ks rs cs ≡ Ok tt → all_narrow (given ks rs cs ws) ≡ true
    → Propers rule (given ks rs cs ws)
unfolding given shapes_checks all_narrow
propers_given rule [] rs cs ws small es en = none
propers_given rule (k ∷ ks) [] cs ws small es en = none
propers_given rule (k ∷ ks) (r ∷ rs) [] ws small es en = none
propers_given rule (k ∷ ks) (r ∷ rs) (c ∷ cs) ws small es en =
    let rest : List ℕ = drop (body_words r c) ws in
    let q = then_done (rule k and_then bad_shape r c) (shapes_checks rule ks rs cs) es in
    let t = then_done (rule k) (bad_shape r c) q.0 in
    let v = and_both (narrow c (rows_of (words_of c) r ws)) (all_narrow (given ks rs cs rest)) en in
    one (record { taken = t.0; small = small 0; shape = shaped r c t.1; size = length_rows (words_of c) r ws; clean = v.0 })
    (propers_given rule ks rs cs rest (λ i. small (suc i)) q.1 v.1)

-- entry i of those given: its rows are in the words past those of the entries before it
abbrev entry_given : ℕ → List ℕ → List ℕ → List ℕ → List ℕ → Entry
entry_given i ks rs cs ws =
    record { kind = get_or ks i 0; rows = get_or rs i 0; columns = get_or cs i 0; matrix = rows_of (words_of (get_or cs i 0)) (get_or rs i 0) (drop (start_of i rs cs) ws) }

given_at : (ks rs cs ws : List ℕ) → length rs ≡ length ks → length cs ≡ length ks → (i : ℕ) → i < length ks
    → entry_in i (given ks rs cs ws) ≡ Ok (entry_given i ks rs cs ws)
unfolding given entry_in all_words
given_at [] rs cs ws er ec i h = absurd (omega arith)
given_at (k ∷ ks) [] cs ws er ec i h = absurd (omega arith)
given_at (k ∷ ks) (r ∷ rs) [] ws er ec i h = absurd (omega arith)
given_at (k ∷ ks) (r ∷ rs) (c ∷ cs) ws er ec zero h = refl
given_at (k ∷ ks) (r ∷ rs) (c ∷ cs) ws er ec (suc i) h =
    given_at ks rs cs (drop (body_words r c) ws) (omega arith) (omega arith) i (omega arith)
    ∙ ap (λ (l : List ℕ). Ok (record { kind = get_or ks i 0; rows = get_or rs i 0; columns = get_or cs i 0; matrix = rows_of (words_of (get_or cs i 0)) (get_or rs i 0) l }))
    (drop-drop (start_of i rs cs) (body_words r c) ws)

-- which end inside the words
within : (rs cs : List ℕ) (i : ℕ) → i < length rs → i < length cs → start_of i rs cs + body_words (get_or rs i 0) (get_or cs i 0) ≤ all_words rs cs
unfolding all_words
within [] cs i h k = absurd (omega arith)
within (r ∷ rs) [] i h k = absurd (omega arith)
within (r ∷ rs) (c ∷ cs) zero h k = omega arith
within (r ∷ rs) (c ∷ cs) (suc i) h k = omega (arith, within rs cs i (omega arith) (omega arith))

module _ (rule : ℕ → Outcome) (ks rs cs ws : List ℕ) (room : ℕ) (fit : Fit ws) (small : (i : ℕ) → get_or ks i 0 < 65536) (done : write_checks rule ks rs cs ws room ≡ Ok tt) where
  -- a written bundle means what was given
  pub given_again : meaning rule (encode (given ks rs cs ws)) ≡ Ok (given ks rs cs ws)
  given_again =
      let v : Writable rule ks rs cs ws room = writable rule ks rs cs ws room done in
      let c : length (given ks rs cs ws) ≡ length ks = count_given ks rs cs ws v.rows_too v.columns_too in
      let t = read_again rule (given ks rs cs ws) (propers_given rule ks rs cs ws small v.shapes v.clean) (omega (arith, v.any, c)) (omega (arith, v.few, c))
      (omega (arith, v.short, length_encode ks rs cs ws v.rows_too v.columns_too v.words_fit)) in
      means rule (encode (given ks rs cs ws)) (given ks rs cs ws) t.0 t.1

  -- so the calls that read it answer what was given: how many entries there are,
  pub counted_again : counted_in (meaning rule (encode (given ks rs cs ws))) ≡ Ok (length ks)
  unfolding counted_in
  counted_again =
      let v : Writable rule ks rs cs ws room = writable rule ks rs cs ws room done in
      ap counted_in given_again ∙ ap Ok (count_given ks rs cs ws v.rows_too v.columns_too)

  module _ (i : ℕ) (h : i < length ks) where
    abbrev E : Entry
    E = entry_given i ks rs cs ws

    found_again : find i (meaning rule (encode (given ks rs cs ws))) ≡ Ok E
    unfolding find
    found_again =
        let v : Writable rule ks rs cs ws room = writable rule ks rs cs ws room done in
        ap (find i) given_again ∙ given_at ks rs cs ws v.rows_too v.columns_too i h

    -- the three numbers of each,
    pub told_again : told_of (find i (meaning rule (encode (given ks rs cs ws)))) ≡ Ok (record { kind = get_or ks i 0; rows = get_or rs i 0; columns = get_or cs i 0 })
    unfolding told_of
    told_again = ap told_of found_again

    -- and its words
    pub unpacks_again : (words : List ℕ) → length words ≡ body_words (get_or rs i 0) (get_or cs i 0)
        → (told_of (lent_entry rule i (encode (given ks rs cs ws)) words) ≡ Ok (record { kind = get_or ks i 0; rows = get_or rs i 0; columns = get_or cs i 0 }))
        × (unpacked_of (lent_entry rule i (encode (given ks rs cs ws)) words) words ≡ take (length words) (drop (start_of i rs cs) ws))
    unfolding lent_for told_of unpacked_of body_words
    unpacks_again words l =
        let v : Writable rule ks rs cs ws room = writable rule ks rs cs ws room done in
        let r : ℕ = get_or rs i 0 in
        let c : ℕ = get_or cs i 0 in
        let rest : List ℕ = drop (start_of i rs cs) ws in
        let s : lent_entry rule i (encode (given ks rs cs ws)) words ≡ Ok E =
        ap (lent_for (length words)) found_again ∙ ap (λ (t : Bool). fitting t E) (eq-eqb (length words) (r * words_of c) l) in
        let inside : start_of i rs cs + r * words_of c ≤ length ws =
        subst (λ (k : ℕ). start_of i rs cs + r * words_of c ≤ k) v.words_fit (within rs cs i (omega (arith, v.rows_too)) (omega (arith, v.columns_too))) in (
          ap told_of s,
          ap (λ (f : Lookup). unpacked_of f words) s
              ∙ flat_rows (words_of c) r rest (fit_drop (start_of i rs cs) ws fit) (omega (arith, inside, length-drop (start_of i rs cs) ws))
              ∙ ap (λ (k : ℕ). take k rest) (sym l),
        )
