-- How early a chain of links and messages can end, whatever the plan (our own profile).
use Rattle.std.specs.Prelude.{ℕ, ◌+◌, ◌<◌, ◌≤◌, length, slice_index}
use Rattle.ttp_model.specs.Instance.{Instance, node_at, process_at, node_of}
use Rattle.ttp_model.specs.Slots.{slot_duration}
use Rattle.ttp_model.specs.Graph.{HasLink, HasMessage}

-- the least duration of a node's slot: that of its first capacity, since capacities rise
abbrev pub least_duration : Instance → ℕ → ℕ
least_duration i n = slot_duration i.cluster (slice_index (node_at i n).capacities 0)

-- how long a message from a process on node n takes at least
abbrev pub least_transfer : Instance → ℕ → ℕ
least_transfer i n = i.cluster.copy_out + least_duration i n + i.cluster.copy_in

-- a chain of links and messages ends with this process, and adds up to this time: the release of
-- its first process, the worst-case execution times of all, and the least transfer of each message
pub data ChainEnds (i : Instance) : ℕ → ℕ → Type 0 where
  one : (p : ℕ) → p < length i.processes → ChainEnds i p ((process_at i p).release + (process_at i p).wcet)
  by_link : (p q time : ℕ) → ChainEnds i p time → HasLink i p q → ChainEnds i q (time + (process_at i q).wcet)
  by_message : (p q time : ℕ) → ChainEnds i p time → HasMessage i p q → ChainEnds i q (time + least_transfer i (node_of i p) + (process_at i q).wcet)

-- the path bound: the greatest sum along a chain
pub record IsPathBound (i : Instance) (bound : ℕ) : Type 0 where
  pub last : ℕ
  pub reached : ChainEnds i last bound
  pub greatest : (p time : ℕ) → ChainEnds i p time → time ≤ bound
