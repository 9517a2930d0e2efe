-- How old what a chain carries is, over all cycles, in ticks.
use Rattle.std.specs.Prelude.{◌≡◌, ℕ, ◌-◌, ◌<◌, ◌≤◌}
use Rattle.ttp_model.specs.declared.plan.Plan.{Plan}
use Rattle.rates_model.specs.declared.parts.Chain.{Chain}
use Rattle.rates_model.specs.Rates.{Rates}
use Rattle.rates_model.specs.Cycles.{jobs_of}
use Rattle.rates_model.specs.Reads.{job_from_all}
use Rattle.rates_model.specs.Ages.{first_of, last_of, release_from_all}
use Rattle.endless_schedules.specs.Carried.{Carries}
use Rattle.endless_schedules.specs.Runs.{Job, ends_at}
use Rattle.endless_schedules.specs.Extremes.{IsGreatest}

-- The age of what job j of the last process carries in cycle c, where that is of job k of the first one, from all: from that
-- one's release to this one's end. In a valid plan no job ends before what it carries is released.
abbrev pub age_at : Rates → Plan → Chain → ℕ → ℕ → ℕ → ℕ
age_at rho plan chain c j k = ends_at rho plan c (Job (last_of chain) j) - release_from_all rho (first_of chain) k

-- What a chain carries is so old in some job of some cycle, one that reaches back to no cycle before the first.
pub record HasAge (rho : Rates) (plan : Plan) (chain : Chain) (age : ℕ) : Type 0 where
  pub cycle : ℕ
  pub job : ℕ
  pub first : ℕ
  pub there : job < jobs_of rho (last_of chain)
  pub carries : Carries rho chain.through (job_from_all rho (last_of chain) cycle job) first
  pub is : age ≡ age_at rho plan chain cycle job first

-- the age of a chain, for ever: the greatest
abbrev pub IsAge : Rates → Plan → Chain → ℕ → Type 0
IsAge rho plan chain = IsGreatest (HasAge rho plan chain)

-- what it carries is never older than this
abbrev pub AreAgesWithin : Rates → Plan → Chain → ℕ → Type 0
AreAgesWithin rho plan chain most = (age : ℕ) → HasAge rho plan chain age → age ≤ most
