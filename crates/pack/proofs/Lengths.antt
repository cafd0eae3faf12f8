-- How many bytes the parts of a bundle take.
use mathlib.Core.Path.{◌≡◌, refl, ap, ap₂, ◌∙◌}
use mathlib.Core.List.{List, [], ◌∷◌}
use Prim.Native.Nat.{ℕ, suc, ◌+◌, ◌*◌}
use native.Mathlib.Omega.{arith}
use lib.ListN.{length, drop, length-append}
use Rattle.words.specs.Words.{words_of, rows_of, flat}
use Rattle.words.proofs.Rows.{length_rows}
use Rattle.words.proofs.Flat.{length_flat}
use Rattle.wire.specs.Bytes.{bytes_of}
use Rattle.wire.proofs.Bytes.{length_bytes}
use Rattle.wire.proofs.Orders.{length_words_bytes}
use Rattle.bundle.specs.Bundle.{Entry, body_words, head_bytes}
use Rattle.pack.specs.Encode.{head_of, contents_of, body_of, bodies_of, encode}
use Rattle.pack.specs.Writing.{given, all_words, bundle_bytes}

pub length_head : (kind rows columns p : ℕ) → length (head_of kind rows columns p) ≡ 10
unfolding head_of
length_head k r c p =
    length-append (bytes_of 2 k) _
    ∙ ap₂ ◌+◌ (length_bytes 2 k) (length-append (bytes_of 2 r) _ ∙ ap₂ ◌+◌ (length_bytes 2 r) (length-append (bytes_of 2 c) _ ∙ ap₂ ◌+◌ (length_bytes 2 c) (length_bytes 4 p)))

pub length_contents : (p : ℕ) (es : List Entry) → length (contents_of p es) ≡ 10 * length es
unfolding contents_of
length_contents p [] = refl
length_contents p (e ∷ es) =
    length-append (head_of e.kind e.rows e.columns p) _
    ∙ ap₂ ◌+◌ (length_head e.kind e.rows e.columns p) (length_contents (p + 8 * body_words e.rows e.columns) es) ∙ omega arith

pub length_body : (e : Entry) → length e.matrix ≡ e.rows → length (body_of e) ≡ 8 * body_words e.rows e.columns
unfolding body_of body_words
length_body e h =
    length_words_bytes e.kind (flat (words_of e.columns) e.matrix)
    ∙ ap (λ (n : ℕ). 8 * n) (length_flat (words_of e.columns) e.matrix ∙ ap (λ (n : ℕ). n * words_of e.columns) h)

-- ---- of the entries given

pub count_given : (ks rs cs ws : List ℕ) → length rs ≡ length ks → length cs ≡ length ks → length (given ks rs cs ws) ≡ length ks
unfolding given
count_given [] rs cs ws er ec = refl
count_given (k ∷ ks) [] cs ws er ec = absurd (omega arith)
count_given (k ∷ ks) (r ∷ rs) [] ws er ec = absurd (omega arith)
count_given (k ∷ ks) (r ∷ rs) (c ∷ cs) ws er ec = ap suc (count_given ks rs cs (drop (body_words r c) ws) (omega arith) (omega arith))

pub length_bodies : (ks rs cs ws : List ℕ) → length rs ≡ length ks → length cs ≡ length ks → length (bodies_of (given ks rs cs ws)) ≡ 8 * all_words rs cs
unfolding bodies_of given all_words
length_bodies [] [] cs ws er ec = refl
length_bodies [] (r ∷ rs) cs ws er ec = absurd (omega arith)
length_bodies (k ∷ ks) [] cs ws er ec = absurd (omega arith)
length_bodies (k ∷ ks) (r ∷ rs) [] ws er ec = absurd (omega arith)
length_bodies (k ∷ ks) (r ∷ rs) (c ∷ cs) ws er ec =
    let e : Entry = record { kind = k; rows = r; columns = c; matrix = rows_of (words_of c) r ws } in
    length-append (body_of e) _
    ∙ ap₂ ◌+◌ (length_body e (length_rows (words_of c) r ws)) (length_bodies ks rs cs (drop (body_words r c) ws) (omega arith) (omega arith))
    ∙ omega arith

-- the length that the writer answers is that of the bundle
pub length_encode : (ks rs cs ws : List ℕ) → length rs ≡ length ks → length cs ≡ length ks → all_words rs cs ≡ length ws
    → length (encode (given ks rs cs ws)) ≡ bundle_bytes (length ks) (length ws)
unfolding encode
length_encode ks rs cs ws er ec ew =
    let es : List Entry = given ks rs cs ws in
    let n : ℕ = length es in
    length-append (bytes_of 2 n) _
    ∙ ap₂ ◌+◌ (length_bytes 2 n)
    (length-append (contents_of (head_bytes n) es) (bodies_of es)
    ∙ ap₂ ◌+◌ (length_contents (head_bytes n) es ∙ ap (λ (x : ℕ). 10 * x) (count_given ks rs cs ws er ec)) (length_bodies ks rs cs ws er ec ∙ ap (λ (x : ℕ). 8 * x) ew))
    ∙ omega arith
