-- Checks in order, whatever they are: a check more is a name more, wherever it stands.
use mathlib.Core.Path.{◌≡◌, refl, sym, ap₂, ◌∙◌, subst}
use mathlib.Core.List.{List, [], ◌∷◌}
use Rattle.refusals.specs.declared.Refusal.{Refusal}
use Rattle.std.specs.Prelude.{Ok, Err}
use Rattle.refusals.specs.Outcome.{Outcome, ◌and_then◌, first_after, first, Promised}

-- P of each check, one after the other, gives A
abbrev pub Each : (Outcome → Type 0) → List Outcome → Type 0 → Type 0
Each P [] A = A
Each P (o ∷ os) A = P o → Each P os A

abbrev pub Passes : Outcome → Type 0
Passes o = o ≡ Ok tt

-- ---- two checks

pub refused_not : {r : Refusal} → ◌≡◌ {A = Outcome} (Err r) (Ok tt) → ⊥
refused_not e = cc

pub then_done : (o p : Outcome) → Passes (o and_then p) → Passes o × Passes p
then_done (Ok tt) p e = (refl, e)
then_done (Err r) p e = absurd (refused_not e)

pub done_then : {o p : Outcome} → Passes o → Passes p → Passes (o and_then p)
done_then e f = ap₂ ◌and_then◌ e f

-- ---- a chain of checks

-- what holds of two checks in order where it holds of both holds of a chain where it holds of each
module _ (P : Outcome → Type 0) (both : (o p : Outcome) → P o → P p → P (o and_then p)) where
  chain_after : (o : Outcome) (os : List Outcome) → P o → Each P os (P (first_after o os))
  chain_after o [] h = h
  chain_after o (p ∷ os) h = λ k. chain_after (o and_then p) os (both o p h k)

  pub chain : P (Ok tt) → (os : List Outcome) → Each P os (P (first os))
  chain h os = chain_after (Ok tt) os h

-- a chain passes where each check does
pub passing : (os : List Outcome) → Each Passes os (Passes (first os))
passing = chain Passes (λ o p. done_then) refl

front_done : (o : Outcome) (os : List Outcome) → Passes (first_after o os) → Passes o
front_done o [] e = e
front_done o (p ∷ os) e = (then_done o p (front_done (o and_then p) os e)).0

-- and only there
module _ {A : Type 0} where
  passed_after : (o : Outcome) (os : List Outcome) → Each Passes os A → Passes (first_after o os) → A
  passed_after o [] a e = a
  passed_after o (p ∷ os) f e = passed_after (o and_then p) os (f (then_done o p (front_done (o and_then p) os e)).1) e

  pub passed : (os : List Outcome) → Each Passes os A → Passes (first os) → A
  passed os f e = passed_after (Ok tt) os f e

-- ---- a call's promise, by the outcome of its checks

-- no two outcomes at once
pub one_refusal : {a b : Refusal} → ◌≡◌ {A = Outcome} (Err a) (Err b) → a ≡ b
one_refusal e = cc

module _ {refused : Refusal → Type 0} {follows : Type 0} {checks : Outcome} (o : Outcome) (e : o ≡ checks) where
  pub promise_stopped : (r : Refusal) → o ≡ Err r → refused r → Promised checks refused follows
  promise_stopped r f a = record {
    stopped = λ q g. subst refused (one_refusal (sym f ∙ e ∙ g)) a;
    past = λ g. absurd (refused_not (sym f ∙ e ∙ g));
  }

  pub promise_past : o ≡ Ok tt → follows → Promised checks refused follows
  promise_past f a = record { stopped = λ q g. absurd (refused_not (sym g ∙ sym e ∙ f)); past = λ g. a }

-- refused by a check, or past them
module _ {refused : Refusal → Type 0} {follows A : Type 0} {checks : Outcome} (p : Promised checks refused follows) where
  pub by_promise : ((r : Refusal) → checks ≡ Err r → refused r → A) → (checks ≡ Ok tt → follows → A) → A
  by_promise stopped past = go checks refl
    where
      go : (o : Outcome) → checks ≡ o → A
      go (Ok tt) e = past e (p.past e)
      go (Err r) e = stopped r e (p.stopped r e)
