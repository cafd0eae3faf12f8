-- Unpack every entry of an accepted bundle and write them again, and its bytes come back: the lists that unpacking gives say its entries again.
use mathlib.Core.Path.{◌≡◌, refl, sym, ap, ap₂, ◌∙◌, subst}
use mathlib.Core.Bool.{true, ◌&&◌}
use mathlib.Core.List.{List, [], ◌∷◌, ◌++◌}
use Prim.Native.Nat.{ℕ, zero, suc, ◌+◌, ◌*◌, ◌<◌, ◌≤◌}
use native.Mathlib.Omega.{arith}
use lib.Dec.{lit<}
use lib.ListN.{length, get_or, take, drop, length-append}
use lib.Seq.{drop_at}
use Rattle.words.specs.Words.{Fit, words_of, rows_of, flat, narrow}
use Rattle.words.proofs.Rows.{length_rows, rows_front}
use Rattle.words.proofs.Flat.{length_flat, fit_flat, fit_append}
use Rattle.wire.specs.Bytes.{Bytes}
use Rattle.wire.specs.Kinds.{words_at}
use Rattle.wire.proofs.Bytes.{num_lt}
use Rattle.std.specs.Prelude.{Ok}
use Rattle.refusals.specs.Outcome.{Outcome}
use Rattle.refusals.proofs.Passed.{done_then}
use Rattle.bundle.specs.Bundle.{Entry, body_words, head_bytes, count_of, kind_at, rows_at, columns_at, offset_at, words_in, matrix_at, entries_checks, entry_at, entries_from, entries_of, meaning, Accepted}
use Rattle.bundle.specs.Answers.{told_of, lent_entry, unpacked_of}
use Rattle.bundle.proofs.Passing.{shape_passes, entries_step, accepted}
use Rattle.pack.specs.Encode.{encode}
use Rattle.pack.specs.Writing.{given, shapes_checks, all_words, all_narrow, bundle_bytes, write_checks, output_by, output}
use Rattle.pack.proofs.Lengths.{length_encode}
use Rattle.pack.proofs.Passing.{write_passes}
use Rattle.roundtrip.specs.Trips.{kinds_of, row_counts_of, column_counts_of, words_of_all, start_of}
use Rattle.roundtrip.proofs.FromBytes.{written_again}
use Rattle.bundle.proofs.Bodies.{rows_again}
use Rattle.words.proofs.Padding.{narrow_row}
use Rattle.bundle.proofs.Meaning.{count_from}
use Rattle.roundtrip.proofs.FromEntries.{Propers, none, one}
use Rattle.bundle.proofs.Exactly.{meant}
use Rattle.roundtrip.proofs.FromLists.{unpacks_again}

proper_entries : (rule : ℕ → Outcome) (k i p : ℕ) (b : List ℕ) → Bytes b → entries_checks rule k i p b ≡ Ok tt → Propers rule (entries_from k i b)
unfolding entries_from entry_at matrix_at
proper_entries rule zero i p b f e = none
proper_entries rule (suc k) i p b f e =
    let s = entries_step rule k i p b e in
    let w : ℕ = words_of (columns_at i b) in
    one (record {
      taken = s.0.taken;
      small = num_lt 2 (head_bytes i) b f;
      shape = s.0.shape;
      size = length_rows w (rows_at i b) (words_at (kind_at i b) (offset_at i b) (words_in i b) b);
      clean = ap (λ (o : ℕ). narrow (columns_at i b) (matrix_at (kind_at i b) o (rows_at i b) (columns_at i b) b)) s.0.body.here ∙ s.0.body.clean;
    })
    (proper_entries rule k (i + 1) (p + 8 * words_in i b) b f s.1)

-- what the four lists say
record Lists (rule : ℕ → Outcome) (es : List Entry) : Type 0 where
  pub back : given (kinds_of es) (row_counts_of es) (column_counts_of es) (words_of_all es) ≡ es
  pub many : length (kinds_of es) ≡ length es
  pub rows_too : length (row_counts_of es) ≡ length (kinds_of es)
  pub columns_too : length (column_counts_of es) ≡ length (kinds_of es)
  pub shapes : shapes_checks rule (kinds_of es) (row_counts_of es) (column_counts_of es) ≡ Ok tt
  pub total : all_words (row_counts_of es) (column_counts_of es) ≡ length (words_of_all es)
  pub clean : all_narrow es ≡ true
  pub small : (i : ℕ) → get_or (kinds_of es) i 0 < 65536
  pub fit : Fit (words_of_all es)

small_cons : (k : ℕ) (ks : List ℕ) → k < 65536 → ((i : ℕ) → get_or ks i 0 < 65536) → (i : ℕ) → get_or (k ∷ ks) i 0 < 65536
small_cons k ks h f zero = h
small_cons k ks h f (suc i) = f i

lists : (rule : ℕ → Outcome) (es : List Entry) → Propers rule es → Lists rule es
unfolding words_of_all given shapes_checks all_words all_narrow body_words
lists rule [] ps = record { back = refl; many = refl; rows_too = refl; columns_too = refl; shapes = refl; total = refl; clean = refl; small = λ i. lit< tt; fit = λ i. lit< tt }
lists rule (e ∷ es) (one pr ps) =
    let F : Lists rule es = lists rule es ps in
    let w : ℕ = words_of e.columns in
    let n : ℕ = body_words e.rows e.columns in
    let X : List ℕ = flat w e.matrix in
    let l : length X ≡ n = length_flat w e.matrix ∙ ap (λ (k : ℕ). k * w) pr.size in
    let m : rows_of w e.rows (X ++ words_of_all es) ≡ e.matrix = rows_front w e.rows X (words_of_all es) (omega arith) ∙ rows_again e pr.size (narrow_row e.columns e.matrix pr.clean) in
    record {
      back =
          ap₂ (λ (M ws : List ℕ). record { kind = e.kind; rows = e.rows; columns = e.columns; matrix = M } ∷ given (kinds_of es) (row_counts_of es) (column_counts_of es) ws) m
          (drop_at X (words_of_all es) n l)
          ∙ ap (λ (xs : List Entry). e ∷ xs) F.back;
      many = ap suc F.many;
      rows_too = ap suc F.rows_too;
      columns_too = ap suc F.columns_too;
      shapes = done_then (done_then pr.taken (shape_passes e.rows e.columns pr.shape)) F.shapes;
      total = ap₂ ◌+◌ (sym l) F.total ∙ sym (length-append X (words_of_all es));
      clean = ap₂ ◌&&◌ pr.clean F.clean;
      small = small_cons e.kind (kinds_of es) pr.small F.small;
      fit = fit_append X (words_of_all es) (fit_flat w e.matrix) F.fit;
    }

module _ (rule : ℕ → Outcome) (b : List ℕ) (es : List Entry) (f : Bytes b) (e : meaning rule b ≡ Ok es) where
  abbrev K : List ℕ
  K = kinds_of es

  abbrev R : List ℕ
  R = row_counts_of es

  abbrev C : List ℕ
  C = column_counts_of es

  abbrev W : List ℕ
  W = words_of_all es

  A : Accepted rule b
  A = accepted rule b (meant rule b es e).0

  F : Lists rule es
  unfolding entries_of
  F = lists rule es (subst (Propers rule) (meant rule b es e).1 (proper_entries rule (count_of b) 0 (head_bytes (count_of b)) b f A.entries))

  many : length K ≡ count_of b
  unfolding entries_of
  many = F.many ∙ ap length (sym (meant rule b es e).1) ∙ count_from (count_of b) 0 b

  same : encode (given K R C W) ≡ b
  same = ap encode (F.back ∙ sym (meant rule b es e).1) ∙ written_again rule b f (meant rule b es e).0

  passes : (room : ℕ) → length b ≤ room → write_checks rule K R C W room ≡ Ok tt
  passes room h =
      let l : bundle_bytes (length K) (length W) ≡ length b = sym (length_encode K R C W F.rows_too F.columns_too F.total) ∙ ap length same in
      write_passes rule K R C W room
      (record {
        rows_too = F.rows_too;
        columns_too = F.columns_too;
        any = subst (λ (k : ℕ). 0 < k) (sym many) A.any;
        few = subst (λ (k : ℕ). k ≤ 64) (sym many) A.few;
        shapes = F.shapes;
        words_fit = F.total;
        clean = ap all_narrow F.back ∙ F.clean;
        short = subst (λ (k : ℕ). k ≤ 65535) (sym l) A.short;
        fits = subst (λ (k : ℕ). k ≤ room) (sym l) h;
      })

  -- the writer takes the lists, they give the entries, and it writes the bundle and nothing past it
  pub same_bytes : (out : List ℕ) → length b ≤ length out
      → (write_checks rule (kinds_of es) (row_counts_of es) (column_counts_of es) (words_of_all es) (length out) ≡ Ok tt)
      × (given (kinds_of es) (row_counts_of es) (column_counts_of es) (words_of_all es) ≡ es)
      × (output rule (kinds_of es) (row_counts_of es) (column_counts_of es) (words_of_all es) out ≡ b ++ drop (length b) out)
  unfolding output_by
  same_bytes out h = (passes (length out) h, F.back, ap₂ (λ (o : Outcome) (xs : List ℕ). output_by o xs out) (passes (length out) h) same)

  -- the lists are those that the calls give: entry i has its numbers at place i, and its words after those of the entries before it
  pub unpacked : (i : ℕ) → i < count_of b → (words : List ℕ) → length words ≡ body_words (get_or (row_counts_of es) i 0) (get_or (column_counts_of es) i 0)
      → (told_of (lent_entry rule i b words) ≡ Ok (record { kind = get_or (kinds_of es) i 0; rows = get_or (row_counts_of es) i 0; columns = get_or (column_counts_of es) i 0 }))
      × (unpacked_of (lent_entry rule i b words) words ≡ take (length words) (drop (start_of i (row_counts_of es) (column_counts_of es)) (words_of_all es)))
  unpacked i h words l =
      rw same at (unpacks_again rule K R C W (length b) F.fit F.small (passes (length b) (omega arith)) i (omega (arith, many)) words l)
