-- A bundle of proper entries is accepted and read back: each number and each body is found where it was put.
use mathlib.Core.Path.{◌≡◌, refl, sym, ap, ap₂, ◌∙◌, subst}
use mathlib.Core.Bool.{true}
use mathlib.Core.List.{List, [], ◌∷◌, ◌++◌, append_assoc}
use Prim.Native.Nat.{ℕ, ◌+◌, ◌*◌, ◌^◌, ◌<◌, ◌≤◌}
use native.Mathlib.Nat.{lt_of_le_of_lt}
use native.Mathlib.Omega.{arith}
use lib.Dec.{lit<}
use lib.ListN.{length, length-append}
use Rattle.words.specs.Words.{words_of, rows_of, flat, narrow}
use Rattle.words.proofs.Flat.{length_flat, fit_flat}
use Rattle.wire.specs.Bytes.{num, bytes_of}
use Rattle.wire.specs.Kinds.{words_at}
use Rattle.wire.proofs.Bytes.{length_bytes, num_at}
use Rattle.wire.proofs.Orders.{words_at_lem}
use Rattle.words.proofs.Padding.{narrow_row}
use Rattle.std.specs.Prelude.{Ok}
use Rattle.refusals.specs.Outcome.{Outcome, first}
use Rattle.refusals.specs.Checks.{Sized}
use Rattle.refusals.proofs.Chain.{Passes, done_then}
use Rattle.refusals.proofs.Passed.{done_same}
use Rattle.bundle.specs.Bundle.{Entry, body_words, head_bytes, count_of, kind_at, rows_at, columns_at, offset_at, words_in, matrix_at}
use Rattle.bundle.specs.Bundle.{entry_order, entries_checks, bundle_checks, entry_at, entries_from, entries_of}
use Rattle.bundle.proofs.Bodies.{rows_again}
use Rattle.bundle.proofs.Passing.{entry_passes, bundle_passes}
use Rattle.pack.specs.Encode.{head_of, contents_of, body_of, bodies_of, encode}
use Rattle.pack.proofs.Lengths.{length_head, length_contents, length_body}

-- an entry that can stand in a bundle
pub record Proper (rule : ℕ → Outcome) (e : Entry) : Type 0 where
  pub taken : rule e.kind ≡ Ok tt
  pub small : e.kind < 65536
  pub shape : Sized 512 e.rows e.columns
  pub size : length e.matrix ≡ e.rows
  pub clean : narrow e.columns e.matrix ≡ true

pub data Propers (rule : ℕ → Outcome) : List Entry → Type 0 where
  none : Propers rule []
  one : {e : Entry} {es : List Entry} → Proper rule e → Propers rule es → Propers rule (e ∷ es)

-- entry i and a body at byte p say e
record Says (e : Entry) (i p : ℕ) (b : List ℕ) : Type 0 where
  pub kind : kind_at i b ≡ e.kind
  pub rows : rows_at i b ≡ e.rows
  pub columns : columns_at i b ≡ e.columns
  pub offset : offset_at i b ≡ p
  pub matrix : matrix_at e.kind p e.rows e.columns b ≡ e.matrix
  pub inside : p + 8 * body_words e.rows e.columns ≤ length b

two : (x : ℕ) → x ≤ 65535 → x < 2 ^ (8 * 2)
two x h = lt_of_le_of_lt h (lit< tt)

four : (x : ℕ) → x ≤ 65535 → x < 2 ^ (8 * 4)
four x h = lt_of_le_of_lt h (lit< tt)

-- bytes in which an entry's ten stand after `pre`, and its body after the other contents C and the bodies before it
module _ (rule : ℕ → Outcome) (e : Entry) (i p : ℕ) (pre C mid B b : List ℕ) (pr : Proper rule e) (lp : length pre ≡ head_bytes i)
    (ep : p ≡ head_bytes (i + 1) + length C + length mid) (short : length b ≤ 65535)
    (eb : b ≡ pre ++ ((head_of e.kind e.rows e.columns p ++ C) ++ (mid ++ (body_of e ++ B)))) where
  abbrev K : List ℕ
  K = bytes_of 2 e.kind

  abbrev R : List ℕ
  R = bytes_of 2 e.rows

  abbrev L : List ℕ
  L = bytes_of 2 e.columns

  abbrev O : List ℕ
  O = bytes_of 4 p

  abbrev H : List ℕ
  H = head_of e.kind e.rows e.columns p

  abbrev T : List ℕ
  T = C ++ (mid ++ (body_of e ++ B))

  -- the same bytes, split before each number
  b₀ : b ≡ pre ++ (H ++ T)
  b₀ = eb ∙ ap (λ (l : List ℕ). pre ++ l) (append_assoc H C (mid ++ (body_of e ++ B)))

  b₁ : b ≡ pre ++ (K ++ (R ++ (L ++ (O ++ T))))
  unfolding head_of
  b₁ =
      b₀
      ∙ ap (λ (l : List ℕ). pre ++ l)
      (append_assoc K (R ++ (L ++ O)) T ∙ ap (λ (l : List ℕ). K ++ l) (append_assoc R (L ++ O) T ∙ ap (λ (l : List ℕ). R ++ l) (append_assoc L O T)))

  b₂ : b ≡ (pre ++ K) ++ (R ++ (L ++ (O ++ T)))
  b₂ = b₁ ∙ sym (append_assoc pre K (R ++ (L ++ (O ++ T))))

  b₃ : b ≡ (pre ++ K ++ R) ++ (L ++ (O ++ T))
  b₃ = b₂ ∙ sym (append_assoc (pre ++ K) R (L ++ (O ++ T)))

  b₄ : b ≡ (pre ++ K ++ R ++ L) ++ (O ++ T)
  b₄ = b₃ ∙ sym (append_assoc (pre ++ K ++ R) L (O ++ T))

  l₂ : length (pre ++ K) ≡ head_bytes i + 2
  l₂ = length-append pre K ∙ ap₂ ◌+◌ lp (length_bytes 2 e.kind)

  l₃ : length (pre ++ K ++ R) ≡ head_bytes i + 4
  l₃ = length-append (pre ++ K) R ∙ ap₂ ◌+◌ l₂ (length_bytes 2 e.rows) ∙ omega arith

  l₄ : length (pre ++ K ++ R ++ L) ≡ head_bytes i + 6
  l₄ = length-append (pre ++ K ++ R) L ∙ ap₂ ◌+◌ l₃ (length_bytes 2 e.columns) ∙ omega arith

  -- and before the body
  lH : length (pre ++ H) ≡ head_bytes (i + 1)
  lH = length-append pre H ∙ ap₂ ◌+◌ lp (length_head e.kind e.rows e.columns p) ∙ omega arith

  b₅ : b ≡ (pre ++ H) ++ (C ++ (mid ++ (body_of e ++ B)))
  b₅ = b₀ ∙ sym (append_assoc pre H T)

  b₆ : b ≡ (pre ++ H ++ (C ++ mid)) ++ (body_of e ++ B)
  b₆ = b₅ ∙ ap (λ (l : List ℕ). pre ++ H ++ l) (sym (append_assoc C mid (body_of e ++ B))) ∙ sym (append_assoc (pre ++ H) (C ++ mid) (body_of e ++ B))

  l₆ : length (pre ++ H ++ (C ++ mid)) ≡ p
  l₆ = length-append (pre ++ H) (C ++ mid) ∙ ap₂ ◌+◌ lH (length-append C mid) ∙ omega (arith, ep)

  -- what comes after this entry, split as before it
  b₇ : b ≡ (pre ++ H) ++ (C ++ ((mid ++ body_of e) ++ B))
  b₇ = b₅ ∙ ap (λ (l : List ℕ). pre ++ H ++ (C ++ l)) (sym (append_assoc mid (body_of e) B))

  lX : length (mid ++ body_of e) ≡ length mid + 8 * body_words e.rows e.columns
  lX = length-append mid (body_of e) ∙ ap (λ (k : ℕ). length mid + k) (length_body e pr.size)

  past : p + 8 * body_words e.rows e.columns ≤ length b
  past =
      let q : length b ≡ p + (length (body_of e) + length B) = ap length b₆ ∙ length-append (pre ++ H ++ (C ++ mid)) (body_of e ++ B) ∙ ap₂ ◌+◌ l₆ (length-append (body_of e) B) in
      omega (arith, q, length_body e pr.size)

  says : Says e i p b
  unfolding body_of matrix_at body_words
  says =
      let w : ℕ = words_of e.columns in
      let X : List ℕ = flat w e.matrix in
      let lX : length X ≡ e.rows * w = length_flat w e.matrix ∙ ap (λ (n : ℕ). n * w) pr.size in
      record {
        kind = ap (num 2 (head_bytes i)) b₁ ∙ num_at 2 (head_bytes i) e.kind pre _ lp (two e.kind (omega (arith, pr.small)));
        rows = ap (num 2 (head_bytes i + 2)) b₂ ∙ num_at 2 (head_bytes i + 2) e.rows (pre ++ K) _ l₂ (two e.rows (omega (arith, pr.shape.few)));
        columns = ap (num 2 (head_bytes i + 4)) b₃ ∙ num_at 2 (head_bytes i + 4) e.columns (pre ++ K ++ R) _ l₃ (two e.columns (omega (arith, pr.shape.wide)));
        offset = ap (num 4 (head_bytes i + 6)) b₄ ∙ num_at 4 (head_bytes i + 6) p (pre ++ K ++ R ++ L) _ l₄ (four p (omega (arith, past)));
        matrix =
            ap (rows_of w e.rows) (ap₂ (words_at e.kind p) (sym lX) b₆ ∙ words_at_lem e.kind p X (pre ++ H ++ (C ++ mid)) B (fit_flat w e.matrix) l₆)
            ∙ rows_again e pr.size (narrow_row e.columns e.matrix pr.clean);
        inside = past;
      }

-- such an entry passes, and is read
passes : (rule : ℕ → Outcome) (e : Entry) (i p : ℕ) (b : List ℕ) → Proper rule e → Says e i p b → Passes (first (entry_order rule i p b))
passes rule e i p b pr s =
    entry_passes rule i p b
    (record {
      taken = ap rule s.kind ∙ pr.taken;
      shape = rw (s.rows, s.columns) pr.shape;
      body = record {
        here = s.offset;
        inside = rw (s.rows, s.columns) s.inside;
        clean =
            ap₂ (λ (k r : ℕ). narrow (columns_at i b) (matrix_at k p r (columns_at i b) b)) s.kind s.rows
            ∙ ap (λ (c : ℕ). narrow c (matrix_at e.kind p e.rows c b)) s.columns ∙ ap (narrow e.columns) s.matrix ∙ pr.clean;
      };
    })

make : ℕ → ℕ → ℕ → List ℕ → Entry
make k r c m = record { kind = k; rows = r; columns = c; matrix = m }

same_entry : (e : Entry) (i p : ℕ) (b : List ℕ) → Says e i p b → entry_at i b ≡ e
unfolding entry_at make
same_entry e i p b s =
    ap₂ (λ (k o : ℕ). make k (rows_at i b) (columns_at i b) (matrix_at k o (rows_at i b) (columns_at i b) b)) s.kind s.offset
    ∙ ap₂ (λ (r c : ℕ). make e.kind r c (matrix_at e.kind p r c b)) s.rows s.columns ∙ ap (make e.kind e.rows e.columns) s.matrix

entries_again : (rule : ℕ → Outcome) (es : List Entry) (i p : ℕ) (pre mid b : List ℕ) → Propers rule es → length pre ≡ head_bytes i
    → p ≡ head_bytes (i + length es) + length mid → length b ≤ 65535 → b ≡ pre ++ (contents_of p es ++ (mid ++ bodies_of es))
    → (entries_checks rule (length es) i p b ≡ Ok tt) × (entries_from (length es) i b ≡ es)
unfolding contents_of bodies_of entries_checks entries_from
entries_again rule [] i p pre mid b ps lp ep short eb =
    let q : length b ≡ length pre + (length mid + 0) = ap length eb ∙ length-append pre (mid ++ []) ∙ ap (λ (k : ℕ). length pre + k) (length-append mid []) in
    (done_same _ p (length b) (omega (arith, q, lp, ep)), refl)
entries_again rule (e ∷ es) i p pre mid b (one pr ps) lp ep short eb =
    let n : ℕ = body_words e.rows e.columns in
    let C : List ℕ = contents_of (p + 8 * n) es in
    let B : List ℕ = bodies_of es in
    let ep' : p ≡ head_bytes (i + 1) + length C + length mid = omega (arith, ep, length_contents (p + 8 * n) es) in
    let s : Says e i p b = says rule e i p pre C mid B b pr lp ep' short eb in
    let ih = entries_again rule es (i + 1) (p + 8 * n) (pre ++ head_of e.kind e.rows e.columns p) (mid ++ body_of e) b ps
    (lH rule e i p pre C mid B b pr lp ep' short eb) (omega (arith, ep, lX rule e i p pre C mid B b pr lp ep' short eb)) short
    (b₇ rule e i p pre C mid B b pr lp ep' short eb) in
    let size : words_in i b ≡ n = ap₂ body_words s.rows s.columns in (
      done_then (passes rule e i p b pr s) (ap (λ (k : ℕ). entries_checks rule (length es) (i + 1) (p + 8 * k) b) size ∙ ih.0),
      ap₂ (λ (x : Entry) (xs : List Entry). x ∷ xs) (same_entry e i p b s) ih.1,
    )

-- a written bundle is accepted, and its entries are those written
pub read_again : (rule : ℕ → Outcome) (es : List Entry) → Propers rule es → 0 < length es → length es ≤ 64 → length (encode es) ≤ 65535
    → (bundle_checks rule (encode es) ≡ Ok tt) × (entries_of (encode es) ≡ es)
unfolding encode entries_of
read_again rule es ps any few short =
    let n : ℕ = length es in
    let p : ℕ = head_bytes n in
    let b : List ℕ = encode es in
    let c : count_of b ≡ n = num_at 2 0 n [] (contents_of p es ++ bodies_of es) refl (two n (omega arith)) in
    let w : (entries_checks rule n 0 p b ≡ Ok tt) × (entries_from n 0 b ≡ es) = entries_again rule es 0 p (bytes_of 2 n) [] b ps (length_bytes 2 n) (omega arith) short refl in
    let l : length b ≡ 2 + (10 * n + length (bodies_of es)) =
    length-append (bytes_of 2 n) (contents_of p es ++ bodies_of es)
    ∙ ap₂ ◌+◌ (length_bytes 2 n) (length-append (contents_of p es) (bodies_of es) ∙ ap (λ (k : ℕ). k + length (bodies_of es)) (length_contents p es)) in (
      bundle_passes rule b
          (record {
            long = omega (arith, l);
            short = short;
            any = subst (λ (k : ℕ). 0 < k) (sym c) any;
            few = subst (λ (k : ℕ). k ≤ 64) (sym c) few;
            whole = subst (λ (k : ℕ). head_bytes k ≤ length b) (sym c) (omega (arith, l));
            entries = ap (λ (k : ℕ). entries_checks rule k 0 (head_bytes k) b) c ∙ w.0;
          }),
      ap (λ (k : ℕ). entries_from k 0 b) c ∙ w.1,
    )
