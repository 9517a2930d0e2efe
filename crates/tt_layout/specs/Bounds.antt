-- How large times may grow, so that none passes 64 bits. Only private contracts ask for it.
use Rattle.std.specs.Prelude.{◌≡◌, ℕ, ◌<◌, ◌≤◌, All, List, length}
use Rattle.ttp_model.specs.Limits.{most_nodes, most_bytes}
use Rattle.ttp_model.specs.declared.parts.Cluster.{Cluster}
use Rattle.ttp_model.specs.Rules.{IsClusterInRange}
use Rattle.ttp_model.specs.Slots.{round_length}
use Rattle.ttp_model.specs.Limits.{most_round}

-- the cluster's numbers are in range, there is a node, and nodes and capacities are within the limits
pub record IsBounded (cluster : Cluster) (order caps : List ℕ) : Type 0 where
  pub ranges : IsClusterInRange cluster
  pub some : 0 < length caps
  pub few_nodes : length caps ≤ most_nodes
  pub few_slots : length order ≤ most_nodes
  pub nodes : All (λ n. n < length caps) order
  pub small : All (λ capacity. capacity ≤ most_bytes) caps

-- the length of a round, in ticks, as it is kept beside the capacities
pub record IsRoundLength (cluster : Cluster) (caps : List ℕ) (round : ℕ) : Type 0 where
  pub value : round ≡ round_length cluster caps
  pub some : 0 < round
  pub bound : round ≤ most_round
