-- What an answer has of the plan that a search begins with, and of why it ended.
use Rattle.std.proofs.Common.{◌≡◌, ℕ, ◌≤◌, Option, None, Some, IfSome, inl, inr, refl, sym, ap, subst, ◌∙◌, arith}
use Rattle.ttp_model.specs.declared.plan.Plan.{Plan}
use Rattle.ttp_model.specs.Instance.{Instance}
use Rattle.ttp_model.specs.Delays.{delay}
use Rattle.certificate.specs.Cert.{Cert}
use Rattle.search_workers.specs.declared.found.FoundPlan.{FoundPlan}
use Rattle.search_workers.specs.declared.outcome.Outcome.{Outcome}
use Rattle.search_workers.specs.declared.outcome.Outcome.TheVariants.{Optimal, Infeasible, Stopped}
use Rattle.search_workers.specs.declared.outcome.Why.{Why}
use Rattle.search_workers.specs.declared.outcome.Why.TheVariants.{CalledOff, Gap}
use Rattle.search_workers.specs.Searching.{limit_of}
use Rattle.search_workers.specs.Ends.{IsAnswerOf, IsCauseTold}
use Rattle.planner.specs.Answers.{best_of, certified_by, IsCalledOff}

-- an answer has the best plan that the search knew
pub answer_best : (i : Instance) (why : Why) (best : Option FoundPlan) (low : ℕ) (cert : Cert) (outcome : Outcome) → IsAnswerOf i why best low cert outcome → best_of outcome ≡ best
answer_best i why best low cert (Optimal plan ticks own) is = sym is.0
answer_best i why best low cert (Infeasible own) is = sym is.0
answer_best i why best low cert (Stopped cause bound found own) is = is.3

-- and keeps it with another certificate
pub same_best : (cert : Cert) (outcome other : Outcome) → other ≡ certified_by cert outcome → best_of other ≡ best_of outcome
same_best cert outcome other is = ap best_of is ∙ kept cert outcome
  where
    kept : (cert : Cert) (outcome : Outcome) → best_of (certified_by cert outcome) ≡ best_of outcome
    kept cert (Optimal plan ticks own) = refl
    kept cert (Infeasible own) = refl
    kept cert (Stopped why low best own) = refl

-- what is no later than a plan that begins no later than the start is no later than that
pub no_later_than : (i : Instance) (start : Option Plan) (first best : Option FoundPlan) → limit_of i best ≤ limit_of i first
    → IfSome start (λ plan. limit_of i first ≤ delay i plan) → IfSome start (λ plan. limit_of i best ≤ delay i plan)
no_later_than i None first best later begins = tt
no_later_than i (Some plan) first best later begins = omega (arith, later, begins)

-- only a search that was called off is told to have been
pub called_off_only : (i : Instance) (why cause : Why) (gap low : ℕ) (best : Option FoundPlan) (cert : Cert) (outcome : Outcome)
    → IsCauseTold why gap low best cause → IsAnswerOf i cause best low cert outcome → IsCalledOff outcome → why ≡ CalledOff
called_off_only i why cause gap low best cert (Optimal plan ticks own) told is off = absurd off
called_off_only i why cause gap low best cert (Infeasible own) told is off = absurd off
called_off_only i why cause gap low best cert (Stopped other bound found own) told is off = elim told [
  | inl near ↦ let wrong : Gap ≡ CalledOff = sym near.1 ∙ (sym is.1 ∙ off) in absurd cc
  | inr far ↦ sym far.1 ∙ (sym is.1 ∙ off)
]

-- also with another certificate
pub same_call : (cert : Cert) (outcome other : Outcome) → other ≡ certified_by cert outcome → IsCalledOff other → IsCalledOff outcome
same_call cert outcome other is off = kept cert outcome (subst IsCalledOff is off)
  where
    kept : (cert : Cert) (outcome : Outcome) → IsCalledOff (certified_by cert outcome) → IsCalledOff outcome
    kept cert (Optimal plan ticks own) off = off
    kept cert (Infeasible own) off = off
    kept cert (Stopped why low best own) off = off
