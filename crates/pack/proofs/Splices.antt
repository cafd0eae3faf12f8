-- Bytes put in place of others: laws of `splice`, and what the loops that put numbers and words leave to be put.
use mathlib.Core.Path.{◌≡◌, refl, sym, ap, ap₂, ◌∙◌}
use mathlib.Core.List.{List, [], ◌∷◌, ◌++◌, append_assoc}
use Prim.Native.Nat.{ℕ, zero, suc, ◌+◌, ◌-◌, ◌*◌, ◌/◌, ◌%◌, ◌^◌, ◌<◌, ◌≤◌}
use native.Mathlib.Nat.{zero-add, div-div-eq-div-mul, pow-suc}
use native.Mathlib.Numerals.{add-one}
use native.Mathlib.Omega.{arith}
use lib.ListN.{length, get_or, take, drop, set, length-append, length-drop, take-append-drop, drop_of_length-le}
use lib.Seq.{drop-cons, drop-drop, length-take-le, take_at, drop_at, take-suc-set, drop-set-lt, append_snoc}
use borrow.Rule.Slice.PartMut.{put_mid}
use Rattle.std.specs.Int.{byte_at, bytes_low_first}
use Rattle.wire.specs.Bytes.{bytes_of}
use Rattle.wire.specs.Kinds.{order, bytes_of_words}
use Rattle.wire.proofs.Bytes.{length_bytes}
use Rattle.bundle.specs.Bundle.{Entry, head_bytes}
use Rattle.pack.specs.Encode.{head_of, contents_of, bodies_of, encode}
use Rattle.pack.specs.Steps.{splice}
use Rattle.pack.proofs.Lengths.{length_contents}

pub splice_none : (p : ℕ) (out : List ℕ) → splice p [] out ≡ out
unfolding splice
splice_none p out =
    let z : p + 0 ≡ p = omega arith in
    ap (λ (k : ℕ). take p out ++ drop k out) z ∙ take-append-drop p out

splice_cons : (p v : ℕ) (xs out : List ℕ) → p < length out → splice p (v ∷ xs) out ≡ splice (p + 1) xs (set out p v)
unfolding splice
splice_cons p v xs out h =
    let e₁ : take (p + 1) (set out p v) ≡ take p out ++ (v ∷ []) = ap (λ (k : ℕ). take k (set out p v)) (add-one p) ∙ take-suc-set out p v h in
    let e₂ : p + suc (length xs) ≡ p + 1 + length xs = omega arith in
    let e₃ : drop (p + 1 + length xs) (set out p v) ≡ drop (p + 1 + length xs) out = drop-set-lt (p + 1 + length xs) out p v (omega arith) in
    ap (λ (k : ℕ). take p out ++ (v ∷ (xs ++ drop k out))) e₂
    ∙ sym (append_snoc (take p out) v (xs ++ drop (p + 1 + length xs) out))
    ∙ ap₂ (λ (a d : List ℕ). a ++ (xs ++ d)) (sym e₁) (sym e₃)

pub splice_append : (p : ℕ) (xs ys out : List ℕ) → p ≤ length out → splice p (xs ++ ys) out ≡ splice (p + length xs) ys (splice p xs out)
unfolding splice
splice_append p xs ys out h =
    let T : List ℕ = take p out in
    let D : List ℕ = drop (p + length xs) out in
    let lT : length T ≡ p = length-take-le p out h in
    let S : List ℕ = (T ++ xs) ++ D in
    let eS : T ++ (xs ++ D) ≡ S = sym (append_assoc T xs D) in
    let lTx : length (T ++ xs) ≡ p + length xs = length-append T xs ∙ ap (λ (k : ℕ). k + length xs) lT in
    let e₁ : take (p + length xs) S ≡ T ++ xs = take_at (T ++ xs) D (p + length xs) lTx in
    let e₂ : drop (p + length xs + length ys) S ≡ drop (length ys) D =
    sym (drop-drop (length ys) (p + length xs) S) ∙ ap (drop (length ys)) (drop_at (T ++ xs) D (p + length xs) lTx) in
    let e₃ : drop (length ys) D ≡ drop (p + length (xs ++ ys)) out =
    drop-drop (length ys) (p + length xs) out ∙ ap (λ (k : ℕ). drop k out) (sum (length-append xs ys)) in
    sym
    (ap (λ (s : List ℕ). take (p + length xs) s ++ (ys ++ drop (p + length xs + length ys) s)) eS
    ∙ ap₂ (λ (a d : List ℕ). a ++ (ys ++ d)) e₁ (e₂ ∙ e₃)
    ∙ append_assoc T xs (ys ++ drop (p + length (xs ++ ys)) out)
    ∙ ap (λ (l : List ℕ). T ++ l) (sym (append_assoc xs ys (drop (p + length (xs ++ ys)) out))))
  where
    sum : length (xs ++ ys) ≡ length xs + length ys → p + length xs + length ys ≡ p + length (xs ++ ys)
    sum e = omega arith

length_splice : (p : ℕ) (xs out : List ℕ) → p + length xs ≤ length out → length (splice p xs out) ≡ length out
unfolding splice
length_splice p xs out h =
    length-append (take p out) (xs ++ drop (p + length xs) out) ∙ ap (λ (k : ℕ). length (take p out) + k) (length-append xs (drop (p + length xs) out))
    ∙ omega (arith, length-take-le p out (omega arith), length-drop (p + length xs) out)

-- ---- the bytes of a number

-- byte by byte: f is the output to come, i bytes are put, and y is what is left of the number

pub number_start : (out : List ℕ) (p k x : ℕ) → splice p (bytes_of k x) out ≡ splice (p + 0) (bytes_of (k - 0) x) out
number_start out p k x =
    let a : p ≡ p + 0 = omega arith in
    let c : k ≡ k - 0 = omega arith in
    ap₂ (λ (i j : ℕ). splice i (bytes_of j x) out) a c

module _ {f : List ℕ} (out : List ℕ) (p k i y : ℕ) (e : f ≡ splice (p + i) (bytes_of (k - i) y) out) where
  pub number_turn : {v : ℕ} → i < k → p + k ≤ length out → v ≡ y % 256 → f ≡ splice (p + (i + 1)) (bytes_of (k - (i + 1)) (y / 256)) (set out (p + i) v)
  unfolding bytes_of
  number_turn h r ev =
      let m : k - i ≡ suc (k - (i + 1)) = omega arith in
      let q : p + i + 1 ≡ p + (i + 1) = omega arith in
      e ∙ ap (λ (j : ℕ). splice (p + i) (bytes_of j y) out) m
      ∙ splice_cons (p + i) (y % 256) (bytes_of (k - (i + 1)) (y / 256)) out (omega arith)
      ∙ ap₂ (λ (j w : ℕ). splice j (bytes_of (k - (i + 1)) (y / 256)) (set out (p + i) w)) q (sym ev)

  pub number_end : k ≤ i → out ≡ f
  unfolding bytes_of
  number_end h =
      let m : k - i ≡ 0 = omega arith in
      sym (e ∙ ap (λ (j : ℕ). splice (p + i) (bytes_of j y) out) m ∙ splice_none (p + i) out)

-- the library's bytes of a number, from byte i on, are its digits
low_bytes : (n i x : ℕ) → bytes_low_first i n x ≡ bytes_of n (x / 256 ^ i)
unfolding bytes_of
low_bytes zero i x = refl
low_bytes (suc n) i x =
    ap₂ ◌∷◌ (byte i) (low_bytes n (suc i) x ∙ ap (bytes_of n) (sym (div-div-eq-div-mul x (256 ^ i) 256 ∙ ap (λ (m : ℕ). x / m) (sym (pow-suc 256 i)))))
  where
    byte : (i : ℕ) → byte_at i x ≡ x / 256 ^ i % 256
    byte zero = omega arith
    byte (suc i) = refl

take_bytes : (k n x : ℕ) → k ≤ n → take k (bytes_of n x) ≡ bytes_of k x
unfolding bytes_of
take_bytes zero n x h = refl
take_bytes (suc k) zero x h = absurd (omega arith)
take_bytes (suc k) (suc n) x h = ap (λ (l : List ℕ). x % 256 ∷ l) (take_bytes k n (x / 256) (omega arith))

-- the k lowest of them written in place of others are spliced in
pub number_put : (out : List ℕ) (p k x : ℕ) (l : List ℕ) → l ≡ take k (bytes_low_first 0 8 x) → k ≤ 8 → put_mid p ((p + k) - p) out l ≡ splice p (bytes_of k x) out
unfolding splice
number_put out p k x l e h =
    let o : x / 1 ≡ x = omega arith in
    let el : l ≡ bytes_of k x = e ∙ ap (take k) (low_bytes 8 0 x ∙ ap (bytes_of 8) o) ∙ take_bytes k 8 x h in
    let z : p + ((p + k) - p) ≡ p + length (bytes_of k x) = omega (arith, length_bytes k x) in
    ap₂ (λ (a b : List ℕ). take p out ++ (a ++ b)) el (drop-drop ((p + k) - p) p out ∙ ap (λ (j : ℕ). drop j out) z)

-- ---- an entry's ten bytes

pub head_steps : (p k r c o : ℕ) (out : List ℕ) → p + 10 ≤ length out
    → splice (p + 6) (bytes_of 4 o) (splice (p + 4) (bytes_of 2 c) (splice (p + 2) (bytes_of 2 r) (splice p (bytes_of 2 k) out))) ≡ splice p (head_of k r c o) out
unfolding head_of
head_steps p k r c o out h =
    let a : List ℕ = bytes_of 2 k in
    let b : List ℕ = bytes_of 2 r in
    let d : List ℕ = bytes_of 2 c in
    let la : p + length a ≡ p + 2 = ap (λ (x : ℕ). p + x) (length_bytes 2 k) in
    let lb : p + 2 + length b ≡ p + 4 = ap (λ (x : ℕ). p + 2 + x) (length_bytes 2 r) ∙ omega arith in
    let ld : p + 4 + length d ≡ p + 6 = ap (λ (x : ℕ). p + 4 + x) (length_bytes 2 c) ∙ omega arith in
    let o₁ : List ℕ = splice p a out in
    let l₁ : length o₁ ≡ length out = length_splice p a out (omega (arith, length_bytes 2 k)) in
    let o₂ : List ℕ = splice (p + 2) b o₁ in
    let l₂ : length o₂ ≡ length o₁ = length_splice (p + 2) b o₁ (omega (arith, length_bytes 2 r)) in
    sym
    (splice_append p a (b ++ (d ++ bytes_of 4 o)) out (omega arith)
    ∙ ap (λ (x : ℕ). splice x (b ++ (d ++ bytes_of 4 o)) o₁) la
    ∙ splice_append (p + 2) b (d ++ bytes_of 4 o) o₁ (omega arith)
    ∙ ap (λ (x : ℕ). splice x (d ++ bytes_of 4 o) o₂) lb
    ∙ splice_append (p + 4) d (bytes_of 4 o) o₂ (omega arith)
    ∙ ap (λ (x : ℕ). splice x (bytes_of 4 o) (splice (p + 4) d o₂)) ld)

-- ---- words: f is the output to come, and j of them are put

pub drop_next : (l : List ℕ) (i : ℕ) → i < length l → drop i l ≡ get_or l i 0 ∷ drop (i + 1) l
drop_next l i h = drop-cons l i 0 h ∙ ap (λ (k : ℕ). get_or l i 0 ∷ drop k l) (sym (add-one i))

pub words_start : (out ws : List ℕ) (p kind a n : ℕ)
    → splice p (bytes_of_words kind (take n (drop a ws))) out ≡ splice (p + 8 * 0) (bytes_of_words kind (take (n - 0) (drop (a + 0) ws))) out
words_start out ws p kind a n =
    let e₁ : p ≡ p + 8 * 0 = omega arith in
    let e₂ : n ≡ n - 0 = omega arith in
    let e₃ : a ≡ a + 0 = omega arith in
    ap (λ (k : ℕ). splice k (bytes_of_words kind (take n (drop a ws))) out) e₁
    ∙ ap₂ (λ (i j : ℕ). splice (p + 8 * 0) (bytes_of_words kind (take i (drop j ws))) out) e₂ e₃

module _ {f : List ℕ} (out ws : List ℕ) (p kind j : ℕ) (e : f ≡ splice (p + 8 * j) (bytes_of_words kind (drop j ws)) out) where
  pub words_turn : {out' : List ℕ} {x : ℕ} → j < length ws → p + 8 * length ws ≤ length out
      → x ≡ order kind (get_or ws j 0) → out' ≡ splice (p + 8 * j) (bytes_of 8 x) out
      → f ≡ splice (p + 8 * (j + 1)) (bytes_of_words kind (drop (j + 1) ws)) out'
  unfolding bytes_of_words
  words_turn h r ex eo =
      let w : ℕ = get_or ws j 0 in
      let t : List ℕ = drop (j + 1) ws in
      let l : p + 8 * j + length (bytes_of 8 (order kind w)) ≡ p + 8 * (j + 1) =
      ap (λ (k : ℕ). p + 8 * j + k) (length_bytes 8 (order kind w)) ∙ omega arith in
      e ∙ ap (λ (z : List ℕ). splice (p + 8 * j) (bytes_of_words kind z) out) (drop_next ws j h)
      ∙ splice_append (p + 8 * j) (bytes_of 8 (order kind w)) (bytes_of_words kind t) out (omega arith)
      ∙ ap₂ (λ (k : ℕ) (o : List ℕ). splice k (bytes_of_words kind t) o) l (ap (λ (y : ℕ). splice (p + 8 * j) (bytes_of 8 y) out) (sym ex) ∙ sym eo)

  pub words_end : length ws ≤ j → out ≡ f
  unfolding bytes_of_words
  words_end h =
      sym (e ∙ ap (λ (z : List ℕ). splice (p + 8 * j) (bytes_of_words kind z) out) (drop_of_length-le ws {i = j} h) ∙ splice_none (p + 8 * j) out)

-- ---- count, contents and bodies, one after the other, are the bundle

front : (xs out : List ℕ) → xs ++ drop (length xs) out ≡ splice 0 xs out
unfolding splice
front xs out = ap (λ (k : ℕ). xs ++ drop k out) (sym (zero-add (length xs)))

pub whole : (es : List Entry) (n : ℕ) (out : List ℕ) → length es ≡ n → head_bytes n ≤ length out
    → splice (head_bytes n) (bodies_of es) (splice 2 (contents_of (head_bytes n) es) (splice 0 (bytes_of 2 n) out)) ≡ encode es ++ drop (length (encode es)) out
unfolding encode
whole es n out en h =
    let C : List ℕ = contents_of (head_bytes n) es in
    let N : List ℕ = bytes_of 2 n in
    let o₁ : List ℕ = splice 0 N out in
    let l₁ : length o₁ ≡ length out = length_splice 0 N out (omega (arith, length_bytes 2 n)) in
    let a : 0 + length N ≡ 2 = ap (λ (x : ℕ). 0 + x) (length_bytes 2 n) in
    let b : 2 + length C ≡ head_bytes n = ap (λ (x : ℕ). 2 + x) (length_contents (head_bytes n) es ∙ ap (λ (x : ℕ). 10 * x) en) in
    let B : ℕ → List ℕ = λ m. bytes_of 2 m ++ (contents_of (head_bytes m) es ++ bodies_of es) in
    sym
    (ap (λ (m : ℕ). B m ++ drop (length (B m)) out) en
    ∙ front (N ++ (C ++ bodies_of es)) out
    ∙ splice_append 0 N (C ++ bodies_of es) out (omega arith)
    ∙ ap (λ (x : ℕ). splice x (C ++ bodies_of es) o₁) a
    ∙ splice_append 2 C (bodies_of es) o₁ (omega arith)
    ∙ ap (λ (x : ℕ). splice x (bodies_of es) (splice 2 C o₁)) b)
