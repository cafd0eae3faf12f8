-- What was moved in two steps stands one after the other at the front.
use Rattle.std.proofs.Common.{◌≡◌, ℕ, ◌+◌, ◌-◌, ◌≤◌, List, ◌++◌, length, take, drop, Option, sym, ap, ◌∙◌, subst, le_refl, drop_at, length-drop, length-take-le, arith}
use Rattle.std.proofs.lemmas.Slice.{take-put_mid_below}
use Rattle.std.proofs.lemmas.List.{take_rest, drop-drop}
use Rattle.std.specs.Io.KnownBytes.{Consumes, Appends}
use Rattle.std.proofs.KnownBytes.{Consumes-trans, Appends-trans}
use borrow.Rule.Slice.PartMut.{put_mid, post_of}
use lib.Seq.{take-add, take-append-le}

-- the front of a list in which a part was put: what stood before the part, and the part's front
front_of_put_mid : (at room n : ℕ) (xs part : List ℕ) → at ≤ length xs → n ≤ length part → take at xs ++ take n part ≡ take (at + n) (put_mid at room xs part)
front_of_put_mid at room n xs part within fits =
    let ys = put_mid at room xs part in
    let after = post_of at room xs in
    let before : take at ys ≡ take at xs = take-put_mid_below _ _ _ _ _ (le_refl _) within in
    let here : take n (drop at ys) ≡ take n part = ap (take n) (drop_at (take at xs) (part ++ after) at (length-take-le at xs within)) ∙ take-append-le n part after fits in
    sym (take-add at n ys ∙ ap (λ l. l ++ take n (drop at ys)) before ∙ ap (λ l. take at xs ++ l) here)

pub read_more : (a b c : Option (List ℕ)) (at room n : ℕ) (xs part : List ℕ) → at ≤ length xs → n ≤ length part
    → Consumes a b (take at xs) → Consumes b c (take n part) → Consumes a c (take (at + n) (put_mid at room xs part))
read_more a b c at room n xs part within fits before here =
    subst (Consumes a c) (front_of_put_mid at room n xs part within fits) (Consumes-trans a b c _ _ before here)

-- some front of the bytes went, and the rest is still to go
pub record Begun (a b : Option (List ℕ)) (bytes rest : List ℕ) : Type 0 where
  pub n : ℕ
  pub within : n ≤ length bytes
  pub left : rest ≡ drop n bytes
  pub went : Appends a b (take n bytes)

pub written_more : (a b c : Option (List ℕ)) (n : ℕ) (bytes rest : List ℕ) → Begun a b bytes rest → n ≤ length rest → Appends b c (take n rest)
    → Begun a c bytes (take (length rest - n) (drop n rest))
written_more a b c n bytes rest begun within here = record {
  n = begun.n + n;
  within = omega (arith, begun.within, within, simp length-drop at (ap length begun.left));
  left = take_rest rest n ∙ ap (drop n) begun.left ∙ drop-drop n begun.n bytes;
  went = subst (Appends a c) (sym (take-add begun.n n bytes)) (Appends-trans a b c _ _ begun.went (subst (λ l. Appends b c (take n l)) begun.left here));
}
