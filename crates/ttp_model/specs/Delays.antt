-- How long a plan takes, and which delay is the least (the figure that Pop, Eles and Peng, CODES 1999, minimise).
use Rattle.std.specs.Prelude.{◌≡◌, ℕ, ◌≤◌, List, length, map}
use Rattle.std.specs.List.{range_with_len}
use Rattle.ttp_model.specs.declared.plan.Plan.{Plan}
use Rattle.ttp_model.specs.Lists.{greatest}
use Rattle.ttp_model.specs.Instance.{Instance}
use Rattle.ttp_model.specs.Plans.{IsValid, end_of}

-- when each process ends, in ticks
abbrev pub ends : Instance → Plan → List ℕ
ends i plan = map (end_of i plan) (range_with_len 0 (length i.processes))

-- the delay of a plan: the greatest end
abbrev pub delay : Instance → Plan → ℕ
delay i plan = greatest (ends i plan)

-- some valid plan has this delay, and no valid plan has a smaller one
pub record IsLeastDelay (i : Instance) (least : ℕ) : Type 0 where
  pub plan : Plan
  pub valid : IsValid i plan
  pub reached : delay i plan ≡ least
  pub bound : (other : Plan) → IsValid i other → least ≤ delay i other

-- no plan is valid
abbrev pub HasNoPlan : Instance → Type 0
HasNoPlan i = (plan : Plan) → ¬ IsValid i plan

-- every valid plan has at least this delay
abbrev pub IsLowerBound : Instance → ℕ → Type 0
IsLowerBound i low = (plan : Plan) → IsValid i plan → low ≤ delay i plan
