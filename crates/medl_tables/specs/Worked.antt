-- A worked example of two channels, whose rows were written by hand.
use Rattle.std.specs.Prelude.{ℕ, [], ◌∷◌, true, false, codes}
use Rattle.ttp_model.specs.declared.plan.Plan.{Plan}
use Rattle.ttp_model.specs.Instance.{Instance, instance_with}
use Rattle.ttp_model.specs.Worked.{node_with, plain_cluster, process_on}
use Rattle.medl_tables.specs.declared.row.Entry.{Entry}

-- p on A sends two bytes m and one byte o to q on B, and three bytes n, which are to be on both channels, to s on C
abbrev pub two_channels : Instance
two_channels = instance_with (record plain_cluster { channels = 2 })
    (node_with (codes "A") 6 ∷ node_with (codes "B") 0 ∷ node_with (codes "C") 0 ∷ [])
    (process_on (codes "p") 0 1 ∷ process_on (codes "q") 1 1 ∷ process_on (codes "s") 2 1 ∷ [])
    []
    (record { name = codes "m"; sender = 0; receivers = 1 ∷ []; bytes = 2; both = false }
    ∷ record { name = codes "n"; sender = 0; receivers = 2 ∷ []; bytes = 3; both = true }
    ∷ record { name = codes "o"; sender = 0; receivers = 1 ∷ []; bytes = 1; both = false }
    ∷ [])

-- all are sent in round 1, m on channel 1, n on both, and o on channel 0
abbrev pub two_channels_plan : Plan
two_channels_plan = record { order = 0 ∷ 1 ∷ 2 ∷ []; caps = 6 ∷ 0 ∷ 0 ∷ []; starts = 0 ∷ 18 ∷ 18 ∷ []; rounds = 1 ∷ 1 ∷ 1 ∷ []; channels = 1 ∷ 2 ∷ 0 ∷ [] }

-- a message on a channel, at an offset
abbrev pub entry : ℕ → ℕ → ℕ → Entry
entry message channel offset = record { message = message; channel = channel; offset = offset }
