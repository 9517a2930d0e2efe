-- A worked example no two figures of which are alike, so that none can stand for another, and plans of it. Computed by hand.
use Rattle.std.specs.Prelude.{ℕ, List, [], ◌∷◌, false, codes}
use Rattle.ttp_model.specs.declared.parts.Cluster.{Cluster}
use Rattle.ttp_model.specs.declared.parts.Process.{Process}
use Rattle.ttp_model.specs.declared.plan.Plan.{Plan}
use Rattle.ttp_model.specs.Instance.{Instance, instance_with}

-- a bus with this time to copy a message out and in, and this horizon
abbrev pub uneven_cluster : ℕ → ℕ → ℕ → Cluster
uneven_cluster copy_out copy_in horizon = record {
  precision = 0;
  lead = 1;
  trail = 2;
  head = 3;
  per_byte = 2;
  copy_out = copy_out;
  copy_in = copy_in;
  horizon = horizon;
  channels = 1;
}

-- a process of this node, with its time, its release and its deadline
abbrev pub process_within : List ℕ → ℕ → ℕ → ℕ → ℕ → Process
process_within name node wcet release deadline = record { name = name; node = node; wcet = wcet; release = release; deadline = deadline }

-- p and r on A, q and s on B, a link from p to r, and messages m from p to s and q, and l from r to s; s has this deadline
abbrev pub uneven_on : Cluster → ℕ → Instance
uneven_on cluster deadline = instance_with cluster
    (record { name = codes "A"; capacities = 3 ∷ 5 ∷ [] } ∷ record { name = codes "B"; capacities = 1 ∷ 8 ∷ [] } ∷ [])
    (process_within (codes "p") 0 13 43 1000000 ∷ process_within (codes "r") 0 17 5 1000000 ∷ process_within (codes "q")
    1 19 0 1000000 ∷ process_within (codes "s") 1 23 0 deadline ∷ [])
    (record { before = 0; after = 1 } ∷ [])
    (record { name = codes "m"; sender = 0; receivers = 3 ∷ 2 ∷ []; bytes = 3; both = false } ∷ record
    { name = codes "l"; sender = 1; receivers = 3 ∷ []; bytes = 2; both = false } ∷ [])

-- with 4 and 7 ticks, a horizon of 500 and a deadline of 200
abbrev pub uneven : Instance
uneven = uneven_on (uneven_cluster 4 7 500) 200

-- A before B, with these starts and rounds
abbrev pub uneven_plan : List ℕ → List ℕ → Plan
uneven_plan starts rounds = record { order = 0 ∷ 1 ∷ []; caps = 3 ∷ 1 ∷ []; starts = starts; rounds = rounds; channels = 0 ∷ 0 ∷ [] }

-- Slots last 12 and 8 ticks. p ends at 56, as m, copied out, goes at 60 in round 3; r then ends at 73, so that l goes at 80 in round 4.
abbrev pub just_in_time : Plan
just_in_time = uneven_plan (43 ∷ 56 ∷ 79 ∷ 99 ∷ []) (3 ∷ 4 ∷ [])
