-- An accepted bundle is what the writer writes of its entries: each part is read and written back where it stood.
use mathlib.Core.Path.{◌≡◌, refl, sym, ap, ap₂, ◌∙◌}
use mathlib.Core.List.{List, ◌++◌}
use Prim.Native.Nat.{ℕ, zero, suc, ◌+◌, ◌*◌, ◌≤◌}
use native.Mathlib.Omega.{arith}
use lib.ListN.{length, take, drop, take-append-drop, drop_of_length-le}
use lib.Seq.{take-add, drop-drop}
use Rattle.wire.specs.Bytes.{Bytes, bytes_of}
use Rattle.wire.specs.Kinds.{words_at, bytes_of_words}
use Rattle.wire.proofs.Bytes.{bytes_num}
use Rattle.wire.proofs.Orders.{bytes_words}
use Rattle.std.specs.Prelude.{Ok}
use Rattle.refusals.specs.Outcome.{Outcome}
use Rattle.bundle.specs.Bundle.{Entry, head_bytes, count_of, kind_at, rows_at, columns_at, offset_at, words_in, entries_checks, bundle_checks, entry_at, entries_from, entries_of, Accepted}
use Rattle.bundle.proofs.Bodies.{flat_matrix}
use Rattle.bundle.proofs.Meaning.{count_from}
use Rattle.bundle.proofs.Passing.{entries_step, entries_end, accepted}
use Rattle.pack.specs.Encode.{head_of, contents_of, body_of, bodies_of, encode}

head_again : (i : ℕ) (b : List ℕ) → Bytes b → head_bytes (i + 1) ≤ length b
    → head_of (kind_at i b) (rows_at i b) (columns_at i b) (offset_at i b) ≡ take 10 (drop (head_bytes i) b)
unfolding head_of
head_again i b f h =
    let d : List ℕ = drop (head_bytes i) b in
    let s₁ : drop (head_bytes i + 2) b ≡ drop 2 d = sym (drop-drop 2 (head_bytes i) b) in
    let s₂ : drop (head_bytes i + 4) b ≡ drop 2 (drop 2 d) = sym (drop-drop 2 2 d ∙ drop-drop 4 (head_bytes i) b) in
    let s₃ : drop (head_bytes i + 6) b ≡ drop 2 (drop 2 (drop 2 d)) = sym (ap (drop 2) (drop-drop 2 2 d) ∙ drop-drop 2 4 d ∙ drop-drop 6 (head_bytes i) b) in
    ap₂ ◌++◌ (bytes_num 2 (head_bytes i) b f (omega arith))
    (ap₂ ◌++◌ (bytes_num 2 (head_bytes i + 2) b f (omega arith) ∙ ap (take 2) s₁)
    (ap₂ ◌++◌ (bytes_num 2 (head_bytes i + 4) b f (omega arith) ∙ ap (take 2) s₂) (bytes_num 4 (head_bytes i + 6) b f (omega arith) ∙ ap (take 4) s₃)
    ∙ sym (take-add 2 4 (drop 2 (drop 2 d))))
    ∙ sym (take-add 2 6 (drop 2 d)))
    ∙ sym (take-add 2 8 d)

module _ (rule : ℕ → Outcome) (b : List ℕ) (f : Bytes b) where
  contents_again : (k i p : ℕ) → entries_checks rule k i p b ≡ Ok tt → head_bytes (i + k) ≤ length b
      → contents_of p (entries_from k i b) ≡ take (10 * k) (drop (head_bytes i) b)
  unfolding contents_of entries_from entry_at
  contents_again zero i p e h = refl
  contents_again (suc k) i p e h =
      let s = entries_step rule k i p b e in
      let n : head_bytes i + 10 ≡ head_bytes (i + 1) = omega arith in
      let t : 10 + 10 * k ≡ 10 * suc k = omega arith in
      ap₂ ◌++◌
      (ap (head_of (kind_at i b) (rows_at i b) (columns_at i b)) (sym s.0.body.here) ∙ head_again i b f (omega arith))
      (contents_again k (i + 1) (p + 8 * words_in i b) s.1 (omega arith)
      ∙ ap (take (10 * k)) (sym (drop-drop 10 (head_bytes i) b ∙ ap (λ (j : ℕ). drop j b) n)))
      ∙ sym (take-add 10 (10 * k) (drop (head_bytes i) b)) ∙ ap (λ (j : ℕ). take j (drop (head_bytes i) b)) t

  bodies_again : (k i p : ℕ) → entries_checks rule k i p b ≡ Ok tt → bodies_of (entries_from k i b) ≡ drop p b
  unfolding bodies_of body_of entries_from entry_at
  bodies_again zero i p e =
      let z : p ≡ length b = entries_end rule i p b e in
      sym (drop_of_length-le b {i = p} (omega arith))
  bodies_again (suc k) i p e =
      let s = entries_step rule k i p b e in
      ap₂ ◌++◌
      (ap (bytes_of_words (kind_at i b)) (flat_matrix (kind_at i b) (offset_at i b) (rows_at i b) (columns_at i b) b f)
      ∙ ap (λ (o : ℕ). bytes_of_words (kind_at i b) (words_at (kind_at i b) o (words_in i b) b)) s.0.body.here
      ∙ bytes_words (kind_at i b) p (words_in i b) b f s.0.body.inside)
      (bodies_again k (i + 1) (p + 8 * words_in i b) s.1 ∙ sym (drop-drop (8 * words_in i b) p b))
      ∙ take-append-drop (8 * words_in i b) (drop p b)

-- the bytes of an accepted bundle are those of its entries
pub written_again : (rule : ℕ → Outcome) (b : List ℕ) → Bytes b → bundle_checks rule b ≡ Ok tt → encode (entries_of b) ≡ b
unfolding encode entries_of
written_again rule b f e =
    let a : Accepted rule b = accepted rule b e in
    let n : ℕ = count_of b in
    let es : List Entry = entries_from n 0 b in
    let c : head_bytes (0 + n) ≤ length b = omega (arith, a.whole) in
    ap (λ (m : ℕ). bytes_of 2 m ++ (contents_of (head_bytes m) es ++ bodies_of es)) (count_from n 0 b)
    ∙ ap₂ ◌++◌ (bytes_num 2 0 b f a.long)
    (ap₂ ◌++◌ (contents_again rule b f n 0 (head_bytes n) a.entries c) (bodies_again rule b f n 0 (head_bytes n) a.entries ∙ sym (drop-drop (10 * n) 2 b))
    ∙ take-append-drop (10 * n) (drop 2 b))
    ∙ take-append-drop 2 b
