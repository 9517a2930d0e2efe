-- Small worked examples, on which the definitions are tried: their figures were computed by hand.
use Rattle.std.specs.Prelude.{ℕ, List, [], ◌∷◌, Bool, false, codes}
use Rattle.ttp_model.specs.declared.parts.Cluster.{Cluster}
use Rattle.ttp_model.specs.declared.parts.Node.{Node}
use Rattle.ttp_model.specs.declared.parts.Process.{Process}
use Rattle.ttp_model.specs.declared.plan.Plan.{Plan}
use Rattle.ttp_model.specs.Instance.{Instance, instance_with}

-- a bus of one channel on which a frame takes a tick and a tick for each byte, and nothing else takes any time
abbrev pub plain_cluster : Cluster
plain_cluster = record {
  precision = 0;
  lead = 0;
  trail = 0;
  head = 1;
  per_byte = 1;
  copy_out = 0;
  copy_in = 0;
  horizon = 100;
  channels = 1;
}

-- a node of this name with this capacity alone
abbrev pub node_with : List ℕ → ℕ → Node
node_with name capacity = record { name = name; capacities = capacity ∷ [] }

-- a process that is released at 0 and has no deadline to speak of
abbrev pub process_on : List ℕ → ℕ → ℕ → Process
process_on name node wcet = record { name = name; node = node; wcet = wcet; release = 0; deadline = 1000000 }

-- two nodes: p runs three ticks on A and sends two bytes to q, which runs two ticks on B
abbrev pub one_message : Instance
one_message = instance_with plain_cluster
    (node_with (codes "A") 2 ∷ node_with (codes "B") 0 ∷ [])
    (process_on (codes "p") 0 3 ∷ process_on (codes "q") 1 2 ∷ [])
    []
    (record { name = codes "m"; sender = 0; receivers = 1 ∷ []; bytes = 2; both = false } ∷ [])

-- A before B, p at this time, q at 7, and m in round 1
abbrev pub one_message_plan : ℕ → Plan
one_message_plan start = record { order = 0 ∷ 1 ∷ []; caps = 2 ∷ 0 ∷ []; starts = start ∷ 7 ∷ []; rounds = 1 ∷ []; channels = 0 ∷ [] }

-- one node with three processes of two ticks each
abbrev pub three_alike : Instance
three_alike = instance_with plain_cluster
    (node_with (codes "A") 0 ∷ [])
    (process_on (codes "a") 0 2 ∷ process_on (codes "b") 0 2 ∷ process_on (codes "c") 0 2 ∷ [])
    []
    []

-- their starts
abbrev pub three_alike_plan : List ℕ → Plan
three_alike_plan starts = record { order = 0 ∷ []; caps = 0 ∷ []; starts = starts; rounds = []; channels = [] }

-- two nodes of a bus with two channels: p runs a tick on A and sends two bytes to q and two to r, which run a tick each on
-- B; the second message is to be on both channels or not
abbrev pub two_messages : Bool → Instance
two_messages both = instance_with (record plain_cluster { channels = 2 })
    (node_with (codes "A") 2 ∷ node_with (codes "B") 0 ∷ [])
    (process_on (codes "p") 0 1 ∷ process_on (codes "q") 1 1 ∷ process_on (codes "r") 1 1 ∷ [])
    []
    (record { name = codes "m"; sender = 0; receivers = 1 ∷ []; bytes = 2; both = false }
    ∷ record { name = codes "l"; sender = 0; receivers = 2 ∷ []; bytes = 2; both = both } ∷ [])

-- B before A, p at once, the messages in round 0 on these channels, and q and r behind them
abbrev pub two_messages_plan : List ℕ → Plan
two_messages_plan channels = record { order = 1 ∷ 0 ∷ []; caps = 2 ∷ 0 ∷ []; starts = 0 ∷ 4 ∷ 5 ∷ []; rounds = 0 ∷ 0 ∷ []; channels = channels }
