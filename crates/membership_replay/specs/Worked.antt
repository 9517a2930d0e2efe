-- A cycle in which one frame is lost at all its receivers: three nodes send in turn, and nobody receives the first
-- frame. What a replay says of such losses is so said of some.
use Rattle.std.specs.Prelude.{List, [], ◌∷◌, codes}
use Rattle.ttp_model.specs.declared.plan.Plan.{Plan}
use Rattle.ttp_model.specs.Instance.{Instance, instance_with}
use Rattle.ttp_model.specs.Worked.{node_with, plain_cluster, process_on}
use Rattle.medl_tables.specs.Medl.{Medl, medl_of}
use Rattle.membership_replay.specs.declared.loss.Loss.{Loss}

-- three nodes without messages, and a process of three ticks on the first
abbrev pub three_nodes : Instance
three_nodes = instance_with plain_cluster
    (node_with (codes "A") 0 ∷ node_with (codes "B") 0 ∷ node_with (codes "C") 0 ∷ [])
    (process_on (codes "p") 0 3 ∷ [])
    []
    []

-- they send in turn, and the process starts at once: a cycle of one round
abbrev pub three_nodes_plan : Plan
three_nodes_plan = record { order = 0 ∷ 1 ∷ 2 ∷ []; caps = 0 ∷ 0 ∷ 0 ∷ []; starts = 0 ∷ []; rounds = []; channels = [] }

-- its node tables
abbrev pub three_nodes_tables : Medl
three_nodes_tables = medl_of three_nodes three_nodes_plan

-- the frame of the first slot is lost at the other two nodes
abbrev pub first_frame_lost : List Loss
first_frame_lost =
    record { round = 0; slot = 0; receiver = 1 } ∷ record { round = 0; slot = 0; receiver = 2 } ∷ []
