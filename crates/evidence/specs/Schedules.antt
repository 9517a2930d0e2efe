-- When nothing of a plan waits for a process, but its own last end.
use Rattle.std.specs.Prelude.{◌≡◌, ◌≢◌, ℕ, ◌<◌, length}
use Rattle.ttp_model.specs.declared.plan.Plan.{Plan}
use Rattle.ttp_model.specs.Instance.{Instance, link_at, message_at, node_of}
use Rattle.ttp_model.specs.Plans.{end_of, start_of}

-- no process starts on its node once it has ended, no link leads from it, and it sends no message
pub record NothingWaits (i : Instance) (plan : Plan) (p : ℕ) : Type 0 where
  pub processes : (q : ℕ) → q < length i.processes → node_of i q ≡ node_of i p → start_of plan q < end_of i plan p
  pub links : (l : ℕ) → l < length i.links → (link_at i l).before ≢ p
  pub messages : (m : ℕ) → m < length i.messages → (message_at i m).sender ≢ p
