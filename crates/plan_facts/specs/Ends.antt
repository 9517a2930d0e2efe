-- By when a process has to end, and by how much it ends too late. Own profile.
use Rattle.std.specs.Prelude.{ℕ, ◌-◌, min}
use Rattle.ttp_model.specs.declared.plan.Plan.{Plan}
use Rattle.ttp_model.specs.Instance.{Instance, process_at}
use Rattle.ttp_model.specs.Plans.{end_of}

-- by when process p has to end, whatever the plan says: its deadline or the horizon, whichever comes first
abbrev pub must_end_by : Instance → ℕ → ℕ
must_end_by i p = min (process_at i p).deadline i.cluster.horizon

-- by how much it ends past that; 0 where it ends in time
abbrev pub late_by : Instance → Plan → ℕ → ℕ
late_by i plan p = end_of i plan p - must_end_by i p
