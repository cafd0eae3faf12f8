-- What `(0..n).all(..)` tells of the numbers below n.
use mathlib.Core.Path.{◌≡◌, refl, subst, ◌∙◌}
use mathlib.Core.Bool.{Bool, true, false}
use mathlib.Core.List.{List}
use mathlib.Core.Logic.{◌↔◌}
use Prim.Native.Nat.{ℕ, ◌<◌}
use native.Mathlib.Omega.{arith}
use denote.Param.Members.{Mut}
use lib.ListN.{length}
use Rattle.std.specs.Bool.{MatchBool}
use Rattle.std.specs.Fn.{Called}
use Rattle.std.specs.Iterator.{YieldsThen}
use Rattle.std.specs.List.{FoldsTo, range_with_len, AllWithin, HoldsAt}
use Rattle.std.specs.Option.{MatchOption}
use Rattle.std.specs.Prelude.{Option}
use Rattle.std.specs.declared.ops.Range.{Range}
use Rattle.std.proofs.iter.Yields.{nat_range_steps}
use Rattle.std.proofs.lemmas.Iterator.{cases_from_all, YieldsList-from_range}
use Rattle.std.proofs.lemmas.List.FromFn.{length-range_with_len, get_or-range_with_len}

-- b is true exactly if P holds of each number below n
abbrev pub EachBelow : ℕ → Bool → (ℕ → Type 0) → Type 0
EachBelow n b P = MatchBool b ((k : ℕ) → k < n → P k) ((k : ℕ) × (k < n) × (P k → ⊥))

pub each_same : (n : ℕ) (b : Bool) (P Q : ℕ → Type 0) → ((k : ℕ) → k < n → P k ↔ Q k) → EachBelow n b P → EachBelow n b Q
each_same n true P Q e h = λ k l. (e k l).0 (h k l)
each_same n false P Q e h = (h.0, h.1, λ q. h.2 ((e h.0 h.1).1 q))

-- the closure, which is f at each call, tells whether P holds
pub each_below : {F : Type 0} {g : Mut F (ℕ × Unit {0}) Bool} {u : Range ℕ} {f : F} (n : ℕ) (b : Bool) (P : ℕ → Type 0)
    → (xs : List ℕ) × (o : Option ℕ) × (j : F) × YieldsThen nat_range_steps (record { start = 0; end = n }) xs o u × FoldsTo (λ p x q. Called g p (x, tt) true q) f xs j
    × MatchOption o (b ≡ true) (λ x. (b ≡ false) × ((h : F) × Called g j (x, tt) false h))
    → ((x : ℕ) (q : F) → Called g f (x, tt) true q → (q ≡ f) × P x) → ((x : ℕ) (q : F) → Called g f (x, tt) false q → P x → ⊥) → EachBelow n b P
each_below {u = u} {f = f} n b P ran hit miss = go b (cases_from_all u f b P (λ k. P k → ⊥) ran (YieldsList-from_range 0 n n refl (omega arith)) hit miss)
  where
    all : List ℕ
    all = range_with_len 0 n

    go : (b : Bool) → MatchBool b (AllWithin P all 0 (length all)) ((k : ℕ) × (k < length all) × HoldsAt (λ k. P k → ⊥) all k) → EachBelow n b P
    go true h = λ k l. subst P (get_or-range_with_len 0 n k 0 l ∙ omega arith) (h k 0 (omega arith) (omega (arith, length-range_with_len 0 n)))
    go false h =
        let l : h.0 < n = omega (arith, h.1, length-range_with_len 0 n) in
        (h.0, l, subst (λ k. P k → ⊥) (get_or-range_with_len 0 n h.0 0 l ∙ omega arith) (h.2 0))
