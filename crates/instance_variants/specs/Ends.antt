-- When the last of some processes ends, and how early it can. Times are ticks.
use Rattle.std.specs.Prelude.{◌≡◌, ℕ, ◌≤◌, List, map, All}
use Rattle.ttp_model.specs.declared.plan.Plan.{Plan}
use Rattle.ttp_model.specs.Lists.{greatest}
use Rattle.ttp_model.specs.Instance.{Instance}
use Rattle.ttp_model.specs.Rules.{IsProcess}
use Rattle.ttp_model.specs.Plans.{IsValid, end_of}
use Rattle.ttp_model.specs.Delays.{delay}

-- each of these is a process of the instance
abbrev pub AreThere : Instance → List ℕ → Type 0
AreThere i ps = All (IsProcess i) ps

-- when the last of these processes ends; 0 where there are none
abbrev pub last_end : Instance → Plan → List ℕ → ℕ
last_end i plan ps = greatest (map (end_of i plan) ps)

-- each of them ends at d or before
abbrev pub EndBy : Instance → List ℕ → Plan → ℕ → Type 0
EndBy i ps plan d = All (λ p. end_of i plan p ≤ d) ps

-- no valid plan ends them all before low
abbrev pub IsLowerEnd : Instance → List ℕ → ℕ → Type 0
IsLowerEnd i ps low = (plan : Plan) → IsValid i plan → low ≤ last_end i plan ps

-- in some valid plan the last of them ends just then, and in no valid plan before
pub record IsLeastEnd (i : Instance) (ps : List ℕ) (least : ℕ) : Type 0 where
  pub plan : Plan
  pub valid : IsValid i plan
  pub reached : last_end i plan ps ≡ least
  pub bound : IsLowerEnd i ps least

-- no valid plan that ends them by d has a delay below low
abbrev pub IsLowerBoundBy : Instance → List ℕ → ℕ → ℕ → Type 0
IsLowerBoundBy i ps d low = (plan : Plan) → IsValid i plan → EndBy i ps plan d → low ≤ delay i plan

-- some valid plan that ends them by d has this delay, and none has a smaller one
pub record IsLeastDelayBy (i : Instance) (ps : List ℕ) (d least : ℕ) : Type 0 where
  pub plan : Plan
  pub valid : IsValid i plan
  pub in_time : EndBy i ps plan d
  pub reached : delay i plan ≡ least
  pub bound : IsLowerBoundBy i ps d least
