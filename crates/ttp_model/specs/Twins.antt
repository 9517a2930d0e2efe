-- What can be exchanged without a difference to any plan's delay (our own profile).
use Rattle.std.specs.Prelude.{◌≡◌, ◌≢◌, ℕ, ◌<◌, length, ◌↔◌}
use Rattle.ttp_model.specs.Instance.{Instance, node_at, process_at, message_at, source_of}
use Rattle.ttp_model.specs.Graph.{HasLink, HasMessage}

-- a process sends no message
abbrev pub SendsNothing : Instance → ℕ → Type 0
SendsNothing i p = (m : ℕ) → m < length i.messages → (message_at i m).sender ≢ p

-- and receives none
abbrev pub ReceivesNothing : Instance → ℕ → Type 0
ReceivesNothing i p = (q : ℕ) → ¬ HasMessage i q p

-- two processes of one node that differ in their names alone, and that neither send nor receive
pub record AreTwins (i : Instance) (p q : ℕ) : Type 0 where
  pub p_is : p < length i.processes
  pub q_is : q < length i.processes
  pub two : p ≢ q
  pub node : (process_at i p).node ≡ (process_at i q).node
  pub wcet : (process_at i p).wcet ≡ (process_at i q).wcet
  pub release : (process_at i p).release ≡ (process_at i q).release
  pub deadline : (process_at i p).deadline ≡ (process_at i q).deadline
  pub predecessors : (k : ℕ) → HasLink i k p ↔ HasLink i k q
  pub successors : (k : ℕ) → HasLink i p k ↔ HasLink i q k
  pub no_link : ¬ HasLink i p q
  pub no_link_back : ¬ HasLink i q p
  pub p_sends : SendsNothing i p
  pub q_sends : SendsNothing i q
  pub p_receives : ReceivesNothing i p
  pub q_receives : ReceivesNothing i q

-- two nodes that send nothing and have the same capacities
pub record AreSilentTwins (i : Instance) (u v : ℕ) : Type 0 where
  pub u_is : u < length i.nodes
  pub v_is : v < length i.nodes
  pub two : u ≢ v
  pub u_silent : (m : ℕ) → m < length i.messages → source_of i m ≢ u
  pub v_silent : (m : ℕ) → m < length i.messages → source_of i m ≢ v
  pub capacities : (node_at i u).capacities ≡ (node_at i v).capacities
