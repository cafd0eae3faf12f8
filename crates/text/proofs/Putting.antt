-- Text put after text is the longer text put at once; what a byte, a run of bytes and a row of digits add.
use mathlib.Core.Path.{◌≡◌, refl, sym, ap, ap₂, ◌∙◌, subst}
use mathlib.Core.Logic.{◌⊎◌, inl, inr}
use mathlib.Core.List.{List, [], ◌∷◌, ◌++◌, append-nil}
use Prim.Native.Nat.{ℕ, zero, suc, ◌+◌, ◌-◌, ◌/◌, ◌%◌, ◌^◌, ◌<◌, ◌≤◌, min}
use native.Mathlib.Decide.{dec_lt}
use native.Mathlib.Nat.{div-one}
use native.Mathlib.Numerals.{add-one}
use native.Mathlib.Omega.{arith}
use lib.Pow.{shr-shr}
use lib.ListN.{length, get_or, take, drop, set, length-append, length-take, length-drop, length-set, take-append-drop, drop_of_length-le}
use lib.Seq.{take-nil, take_all, take-suc-set, drop-set-lt, drop-drop, append_snoc, take-suc}
use Rattle.std.proofs.lemmas.Bool.{cases_lt}
use borrow.Rule.Slice.PartMut.{put_mid}
use Rattle.gf2.specs.Rows.{bit}
use Rattle.text.specs.Text.{bits}
use Rattle.text.specs.Put.{over, Put, Written}
use Rattle.text.specs.declared.Page.{Page}

pub length_over : (p : ℕ) (xs out : List ℕ) → length (over p xs out) ≡ length out
unfolding over
length_over p xs out =
    let t : List ℕ = take (length out - p) xs in
    let d : List ℕ = drop (p + length xs) out in
    length-append (take p out) (t ++ d) ∙ ap (λ (k : ℕ). length (take p out) + k) (length-append t d)
    ∙ omega (arith, length-take p out, length-take (length out - p) xs, length-drop (p + length xs) out)

pub over_none : (p : ℕ) (out : List ℕ) → over p [] out ≡ out
unfolding over
over_none p out =
    let z : p + 0 ≡ p = omega arith in
    ap₂ (λ (l : List ℕ) (k : ℕ). take p out ++ (l ++ drop k out)) (take-nil (length out - p)) z ∙ take-append-drop p out

pub over_full : (p : ℕ) (xs out : List ℕ) → length out ≤ p → over p xs out ≡ out
unfolding over
over_full p xs out h =
    let z : length out - p ≡ 0 = omega arith in
    ap₂ (λ (l m : List ℕ). l ++ m) (take_all p out h)
    (ap₂ (λ (l m : List ℕ). l ++ m) (ap (λ (k : ℕ). take k xs) z) (drop_of_length-le out {i = p + length xs} (omega arith)))
    ∙ append-nil out

-- a byte, where there is room
pub over_byte : (p x : ℕ) (xs out : List ℕ) → p < length out → over p (x ∷ xs) out ≡ over (p + 1) xs (set out p x)
unfolding over
over_byte p x xs out h =
    let m : length out - p ≡ suc (length out - (p + 1)) = omega arith in
    let l : length (set out p x) ≡ length out = length-set out p x in
    let e₁ : take (p + 1) (set out p x) ≡ take p out ++ (x ∷ []) = ap (λ (k : ℕ). take k (set out p x)) (add-one p) ∙ take-suc-set out p x h in
    let e₂ : p + suc (length xs) ≡ p + 1 + length xs = omega arith in
    let e₃ : drop (p + 1 + length xs) (set out p x) ≡ drop (p + 1 + length xs) out = drop-set-lt (p + 1 + length xs) out p x (omega arith) in
    let t : List ℕ = take (length out - (p + 1)) xs in
    ap₂ (λ (k j : ℕ). take p out ++ (take k (x ∷ xs) ++ drop j out)) m e₂
    ∙ sym (append_snoc (take p out) x (t ++ drop (p + 1 + length xs) out))
    ∙ ap₂ (λ (a d : List ℕ). a ++ (t ++ d)) (sym e₁) (sym e₃)
    ∙ ap (λ (k : ℕ). take (p + 1) (set out p x) ++ (take (k - (p + 1)) xs ++ drop (p + 1 + length xs) (set out p x))) (sym l)

set_byte : (p x : ℕ) (out : List ℕ) → p < length out → set out p x ≡ over p (x ∷ []) out
set_byte p x out h = sym (over_byte p x [] out h ∙ over_none (p + 1) (set out p x))

over_cons : (p x : ℕ) (xs out : List ℕ) → over p (x ∷ xs) out ≡ over (min (p + 1) (length out)) xs (over p (x ∷ []) out)
over_cons p x xs out = go (dec_lt p (length out))
  where
    go : Dec (p < length out) → over p (x ∷ xs) out ≡ over (min (p + 1) (length out)) xs (over p (x ∷ []) out)
    go (yes h) =
        let m : p + 1 ≡ min (p + 1) (length out) = omega arith in
        over_byte p x xs out h ∙ ap₂ (λ (k : ℕ) (o : List ℕ). over k xs o) m (set_byte p x out h)
    go (no h) =
        let f : over p (x ∷ []) out ≡ out = over_full p (x ∷ []) out (omega arith) in
        over_full p (x ∷ xs) out (omega arith)
        ∙ sym (ap (over (min (p + 1) (length out)) xs) f ∙ over_full (min (p + 1) (length out)) xs out (omega arith))

-- past the buffer's end it is all the same where a text begins
over_at : (p : ℕ) (xs out : List ℕ) → over p xs out ≡ over (min p (length out)) xs out
over_at p xs out = go (dec_lt p (length out))
  where
    go : Dec (p < length out) → over p xs out ≡ over (min p (length out)) xs out
    go (yes h) =
        let m : p ≡ min p (length out) = omega arith in
        ap (λ (k : ℕ). over k xs out) m
    go (no h) = over_full p xs out (omega arith) ∙ sym (over_full (min p (length out)) xs out (omega arith))

over_append : (p : ℕ) (xs ys out : List ℕ) → over p (xs ++ ys) out ≡ over (min (p + length xs) (length out)) ys (over p xs out)
over_append p [] ys out =
    let z : p ≡ p + 0 = omega arith in
    over_at p ys out ∙ ap₂ (λ (k : ℕ) (o : List ℕ). over (min k (length out)) ys o) z (sym (over_none p out))
over_append p (x ∷ xs) ys out =
    let q : ℕ = min (p + 1) (length out) in
    let o : List ℕ = over p (x ∷ []) out in
    let l : length o ≡ length out = length_over p (x ∷ []) out in
    let m : min (q + length xs) (length o) ≡ min (p + suc (length xs)) (length out) = ap (min (q + length xs)) l ∙ omega arith in
    over_cons p x (xs ++ ys) out ∙ over_append q xs ys o
    ∙ ap₂ (λ (k : ℕ) (z : List ℕ). over k ys z) m (sym (over_cons p x xs out))

-- ---- what is put

pub put_then : {p r r' : ℕ} {s t out out' out'' : List ℕ} → Put p s out r out' → Put r t out' r' out'' → Put p (s ++ t) out r' out''
put_then {p} {r} {r'} {s} {t} {out} {out'} {out''} a b =
    let l : length out' ≡ length out = ap length a.holds ∙ length_over p s out in
    record {
      ends = omega (arith, a.ends, b.ends, l, length-append s t);
      holds = b.holds ∙ ap₂ (λ (k : ℕ) (o : List ℕ). over k t o) a.ends a.holds ∙ sym (over_append p s t out);
    }

pub put_within : {p r : ℕ} {s out out' : List ℕ} → Put p s out r out' → r ≤ length out'
put_within {p} {r} {s} {out} {out'} a = omega (arith, a.ends, ap length a.holds ∙ length_over p s out)

-- a text that there is room for is put whole, and what is past it stays
pub put_all : (s out out' : List ℕ) (r : ℕ) → Put 0 s out r out' → length s ≤ length out → (r ≡ length s) × (out' ≡ s ++ drop r out)
unfolding over
put_all s out out' r a h =
    let e : r ≡ length s = omega (arith, a.ends, h) in
    let whole : take (length out - 0) s ≡ s = take_all (length out - 0) s (omega arith) in
    let ends : 0 + length s ≡ r = omega arith in
    (e, a.holds ∙ ap₂ (λ (l : List ℕ) (k : ℕ). l ++ drop k out) whole ends)

-- a buffer is as long as before
pub put_length : {p r n : ℕ} {s out out' : List ℕ} → Put p s out r out' → length out ≡ n → length out' ≡ n
put_length {p} {r} {n} {s} {out} {out'} a e = ap length a.holds ∙ length_over p s out ∙ e

pub put_none : (p r : ℕ) (out : List ℕ) → r ≡ min p (length out) → Put p [] out r out
put_none p r out e = record { ends = omega arith; holds = sym (over_none p out) }

pub put_byte : (p x : ℕ) (out : List ℕ) → p < length out → Put p (x ∷ []) out (p + 1) (set out p x)
put_byte p x out h = record { ends = omega arith; holds = set_byte p x out h }

pub put_full : (p x : ℕ) (out : List ℕ) → length out ≤ p → Put p (x ∷ []) out (length out) out
put_full p x out h = record { ends = omega arith; holds = sym (over_full p (x ∷ []) out h) }

-- a byte more of a text
pub put_more : {p i q q' x : ℕ} (s : List ℕ) {out out' out'' : List ℕ} → i < length s → x ≡ get_or s i 0 → Put p (take i s) out q out'
    → Put q (x ∷ []) out' q' out'' → Put p (take (i + 1) s) out q' out''
put_more {p} {i} {q} {q'} {x} s {out} {out'} {out''} h e a b =
    subst (λ (t : List ℕ). Put p t out q' out'') (ap (λ (y : ℕ). take i s ++ (y ∷ [])) e ∙ sym (ap (λ (k : ℕ). take k s) (add-one i) ∙ take-suc s i 0 h)) (put_then a b)

pub put_whole : {p i q : ℕ} (s : List ℕ) {out out' : List ℕ} → length s ≤ i → Put p (take i s) out q out' → Put p s out q out'
put_whole {p} {i} {q} s {out} {out'} h a = subst (λ (t : List ℕ). Put p t out q out') (take_all i s h) a

-- as much of a text as there is room for, copied to where it begins
pub put_text : (p start n room : ℕ) (text out part : List ℕ) → start ≡ min p (length out) → n ≡ min (length text) (length out - start) → room ≡ n → part ≡ take n text
    → Put p text out (start + n) (put_mid start room out part)
unfolding over
put_text p start n room text out part es en er ep = record {
  ends = omega arith;
  holds = ap₂ (λ (l m : List ℕ). take start out ++ (l ++ m)) (ep ∙ front (cases_lt (length out - start) (length text))) (drop-drop room start out ∙ rest (cases_lt (length out - start) (length text)))
      ∙ ap (λ (k : ℕ). over k text out) es ∙ sym (over_at p text out);
}
  where
    front : (length out - start < length text) ⊎ (length text ≤ length out - start) → take n text ≡ take (length out - start) text
    front (inl cut) =
        let z : n ≡ length out - start = omega arith in
        ap (λ (k : ℕ). take k text) z
    front (inr whole) = take_all n text (omega arith) ∙ sym (take_all (length out - start) text whole)

    rest : (length out - start < length text) ⊎ (length text ≤ length out - start) → drop (start + room) out ≡ drop (start + length text) out
    rest (inl cut) = drop_of_length-le out {i = start + room} (omega arith) ∙ sym (drop_of_length-le out {i = start + length text} (omega arith))
    rest (inr whole) =
        let z : start + room ≡ start + length text = omega arith in
        ap (λ (k : ℕ). drop k out) z

-- a column more of a row
bits_more : (c v : ℕ) → bits (suc c) v ≡ bits c v ++ ((48 + bit c v) ∷ [])
unfolding bits
bits_more zero v = ap (λ (x : ℕ). (48 + x % 2) ∷ []) (sym (div-one v))
bits_more (suc c) v =
    let e : v / 2 / 2 ^ c ≡ v / 2 ^ suc c = shr-shr v 1 c ∙ ap (λ (k : ℕ). v / 2 ^ k) (one c) in
    ap (λ (l : List ℕ). (48 + v % 2) ∷ l) (bits_more c (v / 2) ∙ ap (λ (x : ℕ). bits c (v / 2) ++ ((48 + x % 2) ∷ [])) e)
  where
    one : (c : ℕ) → 1 + c ≡ suc c
    one c = omega arith

pub put_column : {p q q' x : ℕ} (c v : ℕ) {out out' out'' : List ℕ} → x ≡ 48 + bit c v → Put p (bits c v) out q out'
    → Put q (x ∷ []) out' q' out'' → Put p (bits (c + 1) v) out q' out''
put_column {p} {q} {q'} {x} c v {out} {out'} {out''} e a b =
    subst (λ (t : List ℕ). Put p t out q' out'') (ap (λ (y : ℕ). bits c v ++ (y ∷ [])) e ∙ sym (ap (λ (k : ℕ). bits k v) (add-one c) ∙ bits_more c v)) (put_then a b)

pub put_columns : {p q c : ℕ} (columns v : ℕ) {out out' : List ℕ} → c ≤ columns → columns ≤ c → Put p (bits c v) out q out' → Put p (bits columns v) out q out'
put_columns {p} {q} {c} columns v {out} {out'} l h a =
    let e : c ≡ columns = omega arith in
    subst (λ (k : ℕ). Put p (bits k v) out q out') e a

-- ---- pages

pub written_then : {s t : List ℕ} {page page' page'' : Page} → Written s page page' → Written t page' page'' → Written (s ++ t) page page''
written_then a b = record { put = put_then a.put b.put; same = b.same ∙ a.same }

pub written_none : {page : Page} → page.end ≤ length page.buffer.now → Written [] page page
written_none {page} within = record { put = put_none page.end page.end page.buffer.now (omega arith); same = refl }
