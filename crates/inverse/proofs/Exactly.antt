-- A call gives an inverse exactly if its arguments pass the checks and one exists, and answers 9 exactly if they pass and none does: the promise has no third case, and 9 is the
-- number of no check.
use mathlib.Core.Path.{◌≡◌, sym, ◌∙◌}
use mathlib.Core.Logic.{inl, inr, ◌↔◌}
use mathlib.Core.List.{List}
use Prim.Native.Nat.{ℕ}
use lib.ListN.{length}
use Rattle.gf2.specs.Inverse.{Inverse}
use Rattle.words.specs.Words.{words_of, rows_of}
use Rattle.refusals.specs.declared.Refusal.TheVariants.{NoInverse}
use Rattle.refusals.specs.Outcome.{Outcome}
use Rattle.std.specs.Prelude.{Ok, Err}
use Rattle.refusals.specs.Checks.{inverse_checks}
use Rattle.refusals.proofs.Chain.{by_promise}
use Rattle.refusals.proofs.Never.{inverse_never}
use Rattle.refusals.proofs.Passed.{refused_not}
use Rattle.inverse.specs.Calls.{Inverted, InversionPromised}

module _ (rows columns k : ℕ) (m result room : List ℕ) (r : Outcome) (result' room' : List ℕ) (promise : InversionPromised rows columns k m result room r result' room') where
  -- the matrix
  abbrev A : List ℕ
  A = rows_of (words_of rows) rows m

  abbrev checks : Outcome
  checks = inverse_checks rows columns k m (length result) (length room)

  abbrev Exists : Type 0
  Exists = (X : List ℕ) × Inverse rows A X

  -- what the answer says: a check has refused; or past the checks an inverse is given, or there is none
  answer_is : ((r ≡ Ok tt) ↔ ((checks ≡ Ok tt) × Exists)) × ((r ≡ Err NoInverse) ↔ ((checks ≡ Ok tt) × (Exists → ⊥)))
  answer_is =
      by_promise promise
      (λ x e a. (
        ((λ d. absurd (refused_not (sym a.0 ∙ d))), λ t. absurd (refused_not (sym e ∙ t.0))),
        ((λ n. absurd (inverse_never rows columns k m (length result) (length room) (e ∙ sym a.0 ∙ n))), λ t. absurd (refused_not (sym e ∙ t.0))),
      ))
      (λ e a. past e a.0)
    where
      past : checks ≡ Ok tt → Inverted rows m result r result'
          → ((r ≡ Ok tt) ↔ ((checks ≡ Ok tt) × Exists)) × ((r ≡ Err NoInverse) ↔ ((checks ≡ Ok tt) × (Exists → ⊥)))
      past e (inl g) =
          let found : Exists = (rows_of (words_of rows) rows result', g.1) in (
            ((λ d. (e, found)), λ t. g.0),
            ((λ n. absurd (refused_not (sym n ∙ g.0))), λ t. absurd (t.1 found)),
          )
      past e (inr g) =
          let none : Exists → ⊥ = λ x. g.1 x.0 x.1 in (
            ((λ d. absurd (refused_not (sym g.0 ∙ d))), λ t. absurd (none t.1)),
            ((λ n. (e, none)), λ t. g.0),
          )

  pub given_exactly : (r ≡ Ok tt) ↔ ((checks ≡ Ok tt) × Exists)
  given_exactly = answer_is.0

  pub nine_exactly : (r ≡ Err NoInverse) ↔ ((checks ≡ Ok tt) × (Exists → ⊥))
  nine_exactly = answer_is.1
