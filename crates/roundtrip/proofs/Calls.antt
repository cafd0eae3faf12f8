-- The round trips of the calls: each call's promise makes its answer that of a definition, and the definitions go round.
use mathlib.Core.Path.{◌≡◌, refl, sym, ap, ap₂, ◌∙◌, subst}
use mathlib.Core.List.{List, ◌∷◌, ◌++◌}
use Prim.Native.Nat.{ℕ, zero, suc, ◌+◌, ◌<◌, ◌≤◌}
use native.Mathlib.Omega.{arith}
use lib.ListN.{length, get_or, take, drop}
use lib.Seq.{take_at}
use Rattle.words.specs.Words.{Fit}
use Rattle.wire.specs.Bytes.{Bytes}
use Rattle.std.specs.Prelude.{Result, Ok, Err}
use Rattle.refusals.specs.declared.Refusal.{Refusal}
use Rattle.refusals.specs.Outcome.{Outcome}
use Rattle.bundle.specs.Bundle.{Entry, body_words, both_kinds, count_of, bundle_checks, entry_at, entries_from, entries_of, meaning}
use Rattle.bundle.specs.Answers.{Lookup, counted_in, find, told_of, lent_entry, unpacked_of}
use Rattle.bundle.specs.declared.Numbers.{Numbers}
use Rattle.bundle.proofs.Exactly.{exactly, means}
use Rattle.bundle.proofs.Meaning.{find_entry, lent_fit}
use Rattle.pack.specs.Encode.{encode}
use Rattle.pack.specs.Writing.{given, bundle_bytes, write_checks, Writable, written_by, written, output_by, output}
use Rattle.pack.proofs.Lengths.{length_encode}
use Rattle.pack.proofs.Passing.{writable, write_passes}
use Rattle.roundtrip.specs.Trips.{kinds_of, row_counts_of, column_counts_of, words_of_all, start_of, words_given}
use Rattle.roundtrip.specs.Calls.{ReadCall, EntryCall, UnpackCall, WriteCall, kind_in, rows_in, columns_in, NotRefused, Unpacking, none, next, NoneRefused, kinds_told, rows_told, columns_told, words_left}
use Rattle.roundtrip.proofs.FromBytes.{written_again}
use Rattle.roundtrip.proofs.FromLists.{counted_again, unpacks_again}
use Rattle.roundtrip.proofs.SameBytes.{same_bytes}

-- ---- from bytes to bytes

module _ (b : List ℕ) (done : bundle_checks both_kinds b ≡ Ok tt) where
  -- entry i, lent as many words as `entry` tells
  lent : (i : ℕ) → i < count_of b → (a : EntryCall b i) (c : UnpackCall b i) → length c.words ≡ body_words (rows_in a.answer) (columns_in a.answer)
      → lent_entry both_kinds i b c.words ≡ Ok (entry_at i b)
  unfolding told_of entry_at
  lent i h a c l =
      let f : find i (meaning both_kinds b) ≡ Ok (entry_at i b) = find_entry both_kinds b (Ok tt) (sym done) refl (count_of b) refl i h in
      let t : a.answer ≡ told_of (Ok (entry_at i b)) = a.promise ∙ ap told_of f in
      lent_fit (length c.words) (find i (meaning both_kinds b)) i b f (l ∙ ap (λ (x : Result Numbers Refusal). body_words (rows_in x) (columns_in x)) t)

  -- what was told and left, from entry i on
  record ToldOf (i n : ℕ) (us : Unpacking b i n) : Type 0 where
    pub entries : NoneRefused us
    pub kinds : kinds_told us ≡ kinds_of (entries_from n i b)
    pub rows : rows_told us ≡ row_counts_of (entries_from n i b)
    pub columns : columns_told us ≡ column_counts_of (entries_from n i b)
    pub words : words_left us ≡ words_of_all (entries_from n i b)

  told_of_lem : (i n : ℕ) (us : Unpacking b i n) → i + n ≤ count_of b → ToldOf i n us
  unfolding NoneRefused kinds_told rows_told columns_told words_left entries_from words_of_all told_of unpacked_of
  told_of_lem i zero none h = record { entries = tt; kinds = refl; rows = refl; columns = refl; words = refl }
  told_of_lem i (suc n) (next a c l us) h =
      let f : lent_entry both_kinds i b c.words ≡ Ok (entry_at i b) = lent i (omega arith) a c l in
      let t : c.answer ≡ told_of (Ok (entry_at i b)) = c.promise.0 ∙ ap told_of f in
      let rest : ToldOf (i + 1) n us = told_of_lem (i + 1) n us (omega arith) in
      record {
        entries = (subst NotRefused (sym t) refl, rest.entries);
        kinds = ap₂ ◌∷◌ (ap kind_in t) rest.kinds;
        rows = ap₂ ◌∷◌ (ap rows_in t) rest.rows;
        columns = ap₂ ◌∷◌ (ap columns_in t) rest.columns;
        words = ap₂ ◌++◌ (c.promise.1 ∙ ap (λ (x : Lookup). unpacked_of x c.words) f) rest.words;
      }

-- a write of lists that give entries es
written_back : (ks rs cs ws ks' rs' cs' ws' out b : List ℕ) (es : List Entry) → ks' ≡ ks → rs' ≡ rs → cs' ≡ cs → ws' ≡ ws → encode es ≡ b
    → (write_checks both_kinds ks rs cs ws (length out) ≡ Ok tt) × (given ks rs cs ws ≡ es) × (output both_kinds ks rs cs ws out ≡ b ++ drop (length b) out)
    → (w : WriteCall ks' rs' cs' ws' out) → (w.answer ≡ Ok (length b)) × (w.out' ≡ b ++ drop (length b) out)
unfolding written_by
written_back ks rs cs ws ks' rs' cs' ws' out b es ek er ec ew back s w =
    let v : Writable both_kinds ks rs cs ws (length out) = writable both_kinds ks rs cs ws (length out) s.0 in
    let l : bundle_bytes (length ks) (length ws) ≡ length b =
    sym (length_encode ks rs cs ws v.rows_too v.columns_too v.words_fit) ∙ ap length (ap encode s.1 ∙ back) in (
      w.promise.0
          ∙ ap₂ (λ (k r : List ℕ). written both_kinds k r cs' ws' (length out)) ek er ∙ ap₂ (λ (c x : List ℕ). written both_kinds ks rs c x (length out)) ec ew
          ∙ ap₂ written_by s.0 l,
      w.promise.1 ∙ ap₂ (λ (k r : List ℕ). output both_kinds k r cs' ws' out) ek er ∙ ap₂ (λ (c x : List ℕ). output both_kinds ks rs c x out) ec ew ∙ s.2,
    )

-- Unpack every entry of bytes that `read` accepts: no call is refused. Write what the calls told and left: the answer is the length of those bytes, and they stand
-- at the front of the output, with what stood there behind them.
pub written_by_calls : (b : List ℕ) → Bytes b → (r : ReadCall b) (n : ℕ) → r.answer ≡ Ok n → (us : Unpacking b 0 n)
    → NoneRefused us
    × ((out : List ℕ) → length b ≤ length out → (w : WriteCall (kinds_told us) (rows_told us) (columns_told us) (words_left us) out)
    → (w.answer ≡ Ok (length b)) × (w.out' ≡ b ++ drop (length b) out))
unfolding entries_of
written_by_calls b f r n er us =
    let x : (bundle_checks both_kinds b ≡ Ok tt) × (count_of b ≡ n) = (exactly both_kinds b n).0 (sym r.promise ∙ er) in
    let es : List Entry = entries_from n 0 b in
    let m : meaning both_kinds b ≡ Ok es = means both_kinds b es x.0 (ap (λ (k : ℕ). entries_from k 0 b) x.1) in
    let t : ToldOf b x.0 0 n us = told_of_lem b x.0 0 n us (omega (arith, x.1)) in
    let back : encode es ≡ b = ap (λ (k : ℕ). encode (entries_from k 0 b)) (sym x.1) ∙ written_again both_kinds b f x.0 in (
      t.entries,
      λ out h w. written_back (kinds_of es) (row_counts_of es) (column_counts_of es) (words_of_all es) (kinds_told us) (rows_told us) (columns_told us) (words_left us) out b es
          t.kinds t.rows t.columns t.words back (same_bytes both_kinds b es f m out h) w,
    )

-- ---- from lists to lists

answered : (o : Outcome) (m n : ℕ) → written_by o m ≡ Ok n → (o ≡ Ok tt) × (m ≡ n)
unfolding written_by
answered (Ok tt) m n e = (refl, cc)
answered (Err r) m n e = (cc, cc)

-- a write that answered n bytes; kinds are below 65,536 and words fit 64 bits, as in every slice
module _ (ks rs cs ws out : List ℕ) (small : (i : ℕ) → get_or ks i 0 < 65536) (fit : Fit ws) (w : WriteCall ks rs cs ws out) (n : ℕ) (e : w.answer ≡ Ok n) where
  abbrev B : List ℕ
  B = encode (given ks rs cs ws)

  passed : (write_checks both_kinds ks rs cs ws (length out) ≡ Ok tt) × (bundle_bytes (length ks) (length ws) ≡ n)
  passed = answered (write_checks both_kinds ks rs cs ws (length out)) (bundle_bytes (length ks) (length ws)) n (sym w.promise.0 ∙ e)

  long : length B ≡ n
  long =
      let v : Writable both_kinds ks rs cs ws (length out) = writable both_kinds ks rs cs ws (length out) passed.0 in
      length_encode ks rs cs ws v.rows_too v.columns_too v.words_fit ∙ passed.1

  front : take n w.out' ≡ B
  unfolding output_by
  front = ap (take n) (w.promise.1 ∙ ap (λ (o : Outcome). output_by o B out) passed.0) ∙ take_at B (drop (length B) out) n long

  -- The first n bytes that it left are a bundle: `read` answers as many entries as were given; unpacking entry i, lent as many words as its rows take, answers
  -- kind, rows and columns number i of those given, and leaves the words given for it.
  pub unpacked_by_calls : (length (take n w.out') ≡ n) × ((r : ReadCall (take n w.out')) → r.answer ≡ Ok (length ks))
      × ((i : ℕ) → i < length ks → (c : UnpackCall (take n w.out') i) → length c.words ≡ body_words (get_or rs i 0) (get_or cs i 0)
      → (c.answer ≡ Ok (record { kind = get_or ks i 0; rows = get_or rs i 0; columns = get_or cs i 0 })) × (c.words' ≡ words_given i rs cs ws))
  unpacked_by_calls = (
    ap length front ∙ long,
    λ r. r.promise ∙ ap (λ (b : List ℕ). counted_in (meaning both_kinds b)) front ∙ counted_again both_kinds ks rs cs ws (length out) fit small passed.0,
    λ i h c l. let u = unpacks_again both_kinds ks rs cs ws (length out) fit small passed.0 i h c.words l in (
      c.promise.0 ∙ ap (λ (b : List ℕ). told_of (lent_entry both_kinds i b c.words)) front ∙ u.0,
      c.promise.1 ∙ ap (λ (b : List ℕ). unpacked_of (lent_entry both_kinds i b c.words) c.words) front ∙ u.1
          ∙ ap (λ (k : ℕ). take k (drop (start_of i rs cs) ws)) l,
    ),
  )

-- ---- such calls there are

-- Whatever can be written (pack/specs/Writing: `Writable`) is answered with a number of bytes; so is the sample (Written: `sample_answered`).
pub passes_written : (ks rs cs ws out : List ℕ) → Writable both_kinds ks rs cs ws (length out) → (w : WriteCall ks rs cs ws out)
    → w.answer ≡ Ok (bundle_bytes (length ks) (length ws))
unfolding written_by
passes_written ks rs cs ws out v w =
    w.promise.0 ∙ ap (λ (o : Outcome). written_by o (bundle_bytes (length ks) (length ws))) (write_passes both_kinds ks rs cs ws (length out) v)
