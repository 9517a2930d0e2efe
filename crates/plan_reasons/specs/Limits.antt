-- What a process has to end by. Own profile.
use Rattle.std.specs.Prelude.{ℕ, ◌<◌, ◌≤◌}
use Rattle.ttp_model.specs.Instance.{Instance, process_at}
use Rattle.plan_reasons.specs.declared.limits.Limit.{Limit}
use Rattle.plan_reasons.specs.declared.limits.Limit.TheVariants.{Deadline, Horizon}

-- its deadline, where that is no later than the horizon
abbrev pub IsLimit : Instance → ℕ → Limit → Type 0
IsLimit i p Deadline = (process_at i p).deadline ≤ i.cluster.horizon
IsLimit i p Horizon = i.cluster.horizon < (process_at i p).deadline
