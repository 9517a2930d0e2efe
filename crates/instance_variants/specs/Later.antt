-- An instance in which all may end later: the horizon and all deadlines are put off by as many ticks. Own profile.
use Rattle.std.specs.Prelude.{ℕ, ◌+◌, map, min}
use Rattle.ttp_model.specs.declared.parts.Cluster.{Cluster}
use Rattle.ttp_model.specs.declared.parts.Process.{Process}
use Rattle.ttp_model.specs.Limits.{most_ticks}
use Rattle.ttp_model.specs.Instance.{Instance}

-- a tick that is x ticks later, but at most the latest that can be said
abbrev pub put_off : ℕ → ℕ → ℕ
put_off x tick = min (tick + x) most_ticks

-- a cluster whose horizon is
abbrev pub later_cluster : ℕ → Cluster → Cluster
later_cluster x c = record c { horizon = put_off x c.horizon }

-- a process whose deadline is
abbrev pub later_process : ℕ → Process → Process
later_process x p = record p { deadline = put_off x p.deadline }

-- the instance with its horizon and all deadlines x ticks later; all else is as it was
abbrev pub later : Instance → ℕ → Instance
later i x = record i { cluster = later_cluster x i.cluster; processes = map (later_process x) i.processes }
