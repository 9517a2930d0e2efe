-- What an answer to the question for a shortest plan says of an instance. Nothing of a search stands here.
use Rattle.std.specs.Prelude.{◌≡◌, ℕ, Option, None, Some}
use Rattle.ttp_model.specs.declared.plan.Plan.{Plan}
use Rattle.ttp_model.specs.Instance.{Instance}
use Rattle.ttp_model.specs.Plans.{IsValid}
use Rattle.ttp_model.specs.Delays.{delay, IsLeastDelay, HasNoPlan, IsLowerBound}

-- a plan with its delay that is the least; that there is no plan; or a bound, and the best plan that was found, with its delay
pub data Answer : Type 0 where
  Least : Plan → ℕ → Answer
  NoPlan : Answer
  Between : ℕ → Option (Plan × ℕ) → Answer

-- a plan that was found is valid, and has the delay that stands beside it
abbrev pub IsBestPlan : Instance → Option (Plan × ℕ) → Type 0
IsBestPlan i None = Unit {0}
IsBestPlan i (Some best) = IsValid i best.0 × (best.1 ≡ delay i best.0)

-- What a reader learns. Of a plan that is called least: it is valid, has the delay stated, and no valid plan has a smaller one.
-- Of "no plan": there is no valid one. Of a bound: no valid plan is below it, and the plan beside it, if there is one, is valid
-- and has the delay stated.
abbrev pub IsTrueOf : Instance → Answer → Type 0
IsTrueOf i (Least plan ticks) = IsValid i plan × (ticks ≡ delay i plan) × IsLeastDelay i ticks
IsTrueOf i NoPlan = HasNoPlan i
IsTrueOf i (Between low best) = IsLowerBound i low × IsBestPlan i best
