-- The plans that a worker finds, and what it offers of them.
use Rattle.std.specs.Prelude.{◌≡◌, ℕ, ◌≤◌, List, [], ◌++◌, All, Option, None, Some}
use Rattle.ttp_model.specs.declared.plan.Plan.{Plan}
use Rattle.ttp_model.specs.Instance.{Instance}
use Rattle.ttp_model.specs.Delays.{delay}
use Rattle.ttp_model.specs.Moves.{IsSettled}
use Rattle.incumbent.specs.declared.word.Watch.{Watch}
use Rattle.search_workers.specs.declared.found.FoundPlan.{FoundPlan}
use Rattle.incumbent.specs.Watch.{offers}

-- a settled plan with its delay in ticks
pub record IsPlanFound (i : Instance) (plan : Plan) (ticks : ℕ) : Type 0 where
  pub settled : IsSettled i plan
  pub delay_is : ticks ≡ delay i plan

-- some settled plan has this delay
pub record IsFoundDelay (i : Instance) (ticks : ℕ) : Type 0 where
  pub plan : Plan
  pub is : IsPlanFound i plan ticks

-- a plan that was found, with a delay of at most each of these; none only where there are none
abbrev pub IsBestOf : Instance → List ℕ → Option FoundPlan → Type 0
IsBestOf i made None = made ≡ []
IsBestOf i made (Some best) = IsPlanFound i best.plan best.delay × All (λ value. best.delay ≤ value) made

-- what a watch offered since: delays of settled plans, and the best of them
pub record OffersBest (i : Instance) (old new : Watch) (found : Option FoundPlan) : Type 0 where
  pub made : List ℕ
  pub offered : offers new ≡ offers old ++ made
  pub plans : All (IsFoundDelay i) made
  pub best : IsBestOf i made found
