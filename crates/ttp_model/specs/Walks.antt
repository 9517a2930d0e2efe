-- Chains by how many processes they have: they are few. Only private contracts ask for it.
use Rattle.std.specs.Prelude.{ℕ, suc, ◌+◌, ◌<◌, length}
use Rattle.ttp_model.specs.Instance.{Instance, process_at, node_of}
use Rattle.ttp_model.specs.Graph.{HasLink, HasMessage}
use Rattle.ttp_model.specs.Chains.{least_transfer}

-- a chain of so many processes ends with this one, and adds up to this time
pub data Chain (i : Instance) : ℕ → ℕ → ℕ → Type 0 where
  first : (p : ℕ) → p < length i.processes → Chain i 1 p ((process_at i p).release + (process_at i p).wcet)
  on_link : (n p q time : ℕ) → Chain i n p time → HasLink i p q → Chain i (suc n) q (time + (process_at i q).wcet)
  on_message : (n p q time : ℕ) → Chain i n p time → HasMessage i p q → Chain i (suc n) q (time + least_transfer i (node_of i p) + (process_at i q).wcet)
