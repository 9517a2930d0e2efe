-- What an instance keeps of one of its parts, which is read at an index.
use Rattle.std.proofs.Common.{◌≡◌, ℕ, ◌<◌, ◌≤◌, length, All}
use Rattle.ttp_model.specs.declared.limits.TheConstants.{MOST_BYTES}
use Rattle.ttp_model.specs.declared.parts.Process.{Process}
use Rattle.ttp_model.specs.declared.parts.Message.{Message}
use Rattle.ttp_model.specs.declared.error.Place.TheVariants.{AtProcess, AtMessage}
use Rattle.ttp_model.specs.Instance.{Instance, process_at, message_at}
use Rattle.ttp_model.specs.Rules.{IsInstance, IsProcessInRange}

module _ (i : Instance) (w : IsInstance i) (p : ℕ) (process : Process) (inside : p < length i.processes) (is : process ≡ process_at i p) where
  pub node_inside : process.node < length i.nodes
  node_inside = rw is (w.indices (AtProcess p) inside)

  pub times_inside : IsProcessInRange process
  times_inside = rw is (w.ranges (AtProcess p) inside)

module _ (i : Instance) (w : IsInstance i) (m : ℕ) (message : Message) (inside : m < length i.messages) (is : message ≡ message_at i m) where
  pub sender_inside : message.sender < length i.processes
  sender_inside = rw is (w.indices (AtMessage m) inside).0

  pub receivers_inside : All (λ q. q < length i.processes) message.receivers
  receivers_inside = rw is (w.indices (AtMessage m) inside).1

  pub bytes_inside : message.bytes ≤ MOST_BYTES
  bytes_inside = rw is (w.ranges (AtMessage m) inside).1
