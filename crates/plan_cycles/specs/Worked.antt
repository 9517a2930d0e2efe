-- A small cluster whose clocks may differ, on which the laws are tried: its figures were computed by hand.
use Rattle.std.specs.Prelude.{◌≢◌, ℕ, ◌+◌, [], ◌∷◌, ◌==◌, if◌then◌else◌, false, codes}
use Rattle.ttp_model.specs.declared.parts.Cluster.{Cluster}
use Rattle.ttp_model.specs.declared.plan.Plan.{Plan}
use Rattle.ttp_model.specs.Instance.{Instance, instance_with}
use Rattle.ttp_model.specs.Rules.{KeepsRule, Rule}
use Rattle.ttp_model.specs.Worked.{node_with, plain_cluster, process_on}
use Rattle.guardian_windows.specs.Clocks.{GuardianClock, NodeClock, Readings}

-- clocks that differ by a tick at most, a lead of two, and this trail
abbrev pub cluster_with : ℕ → Cluster
cluster_with trail = record plain_cluster { precision = 1; lead = 2; trail = trail }

-- p runs a tick on A and sends two bytes to q, which runs a tick on B
abbrev pub pair_with : ℕ → Instance
pair_with trail = instance_with (cluster_with trail)
    (node_with (codes "A") 2 ∷ node_with (codes "B") 0 ∷ [])
    (process_on (codes "p") 0 1 ∷ process_on (codes "q") 1 1 ∷ [])
    []
    (record { name = codes "m"; sender = 0; receivers = 1 ∷ []; bytes = 2; both = false } ∷ [])

-- B before A, p at once, m in round 0, and q at this time
abbrev pub pair_plan : ℕ → Plan
pair_plan start = record { order = 1 ∷ 0 ∷ []; caps = 2 ∷ 0 ∷ []; starts = 0 ∷ start ∷ []; rounds = 0 ∷ []; channels = 0 ∷ [] }

-- B's clock reads this tick, and all others the one before it
abbrev pub fast_receiver : ℕ → Readings
fast_receiver tick (NodeClock n) = if n == 1 then tick + 1 else tick
fast_receiver tick (GuardianClock n) = tick

-- of all rules of an instance it breaks this one alone
pub record BreaksAlone (i : Instance) (rule : Rule) : Type 0 where
  pub broken : ¬ KeepsRule i rule
  pub others : (other : Rule) → other ≢ rule → KeepsRule i other
