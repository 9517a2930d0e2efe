-- By how many ticks a plan is late, and how late all has to end for there to be one. Times are ticks.
use Rattle.std.specs.Prelude.{ℕ, ◌<◌, length, map}
use Rattle.std.specs.List.{range_with_len}
use Rattle.ttp_model.specs.declared.plan.Plan.{Plan}
use Rattle.ttp_model.specs.Lists.{greatest}
use Rattle.ttp_model.specs.Instance.{Instance}
use Rattle.ttp_model.specs.Plans.{IsValid}
use Rattle.ttp_model.specs.Delays.{HasNoPlan}
use Rattle.plan_facts.specs.Ends.{late_by}
use Rattle.instance_variants.specs.Later.{later}

-- by how much a plan is late: the process that is the latest
abbrev pub lateness : Instance → Plan → ℕ
lateness i plan = greatest (map (late_by i plan) (range_with_len 0 (length i.processes)))

-- some plan is valid where all ends are x ticks later, and none where they are fewer ticks later
pub record IsLeastLateness (i : Instance) (x : ℕ) : Type 0 where
  pub plan : Plan
  pub valid : IsValid (later i x) plan
  pub none_before : (y : ℕ) → y < x → HasNoPlan (later i y)
