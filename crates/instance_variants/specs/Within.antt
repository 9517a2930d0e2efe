-- An instance in which all has to end by a tick. Own profile.
use Rattle.std.specs.Prelude.{ℕ, min}
use Rattle.ttp_model.specs.declared.parts.Cluster.{Cluster}
use Rattle.ttp_model.specs.Instance.{Instance}

-- a cluster whose horizon is at most d
abbrev pub within_cluster : ℕ → Cluster → Cluster
within_cluster d c = record c { horizon = min c.horizon d }

-- the instance with that cluster; all else is as it was
abbrev pub within : Instance → ℕ → Instance
within i d = record i { cluster = within_cluster d i.cluster }
