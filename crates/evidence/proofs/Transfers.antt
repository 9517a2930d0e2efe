-- A path bound counts a message from one process to another.
use Rattle.std.proofs.Common.{ℕ, ◌+◌, ◌<◌, ◌≤◌, length, Result, Ok, Err, IfOk}
use Rattle.ttp_model.specs.Instance.{Instance, process_at, node_of}
use Rattle.ttp_model.specs.Graph.{HasMessage}
use Rattle.ttp_model.specs.Chains.{IsPathBound, least_transfer, one, by_message}

pub counts : {E : Type 0} (i : Instance) (result : Result ℕ E) → IfOk result (IsPathBound i)
    → IfOk result (λ bound. (p q : ℕ) → p < length i.processes → HasMessage i p q
    → (process_at i p).release + (process_at i p).wcet + least_transfer i (node_of i p) + (process_at i q).wcet ≤ bound)
counts i (Ok bound) says = λ p q here message. says.greatest q _ (by_message p q _ (one p here) message)
counts i (Err e) says = tt
