-- How early a process can start and a message be sent, where nothing else of a valid plan changes (our own profile).
use Rattle.std.specs.Prelude.{◌≡◌, ℕ, ◌+◌, ◌<◌, ◌≤◌, IsTrue, Contains, length, slice_index}
use Rattle.ttp_model.specs.declared.plan.Plan.{Plan}
use Rattle.ttp_model.specs.Lists.{EachBelow}
use Rattle.ttp_model.specs.Instance.{Instance, process_at, message_at, node_of, source_of}
use Rattle.ttp_model.specs.Slots.{slot_start}
use Rattle.ttp_model.specs.Plans.{EndsBefore, end_of, sent_until, load_on, is_on, channel_of}
use Rattle.ttp_model.specs.Moves.{sent}

-- by this time all is over that process p waits for: its release, those that run before it on its node, and the messages
-- to it
pub record CanStart (i : Instance) (plan : Plan) (p time : ℕ) : Type 0 where
  pub released : (process_at i p).release ≤ time
  pub others : (x : ℕ) → x < length i.processes → node_of i x ≡ node_of i p → EndsBefore i plan x p → end_of i plan x ≤ time
  pub messages : (m : ℕ) → m < length i.messages → Contains (message_at i m).receivers p → sent_until i plan m + i.cluster.copy_in ≤ time

-- where message m is on channel c, its frame of this round holds it there with what else is in it
abbrev pub FitsIn : Instance → Plan → ℕ → ℕ → ℕ → Type 0
FitsIn i plan m r c = IsTrue (is_on c (channel_of plan m)) → load_on i (sent plan m r) (source_of i m) r c ≤ slice_index plan.caps (source_of i m)

-- message m is ready when its slot of this round begins, and the frame holds it on each of its channels
pub record CanBeSent (i : Instance) (plan : Plan) (m r : ℕ) : Type 0 where
  pub ready : end_of i plan (message_at i m).sender + i.cluster.copy_out ≤ slot_start i.cluster plan.order plan.caps (source_of i m) r
  pub fits : EachBelow i.cluster.channels (FitsIn i plan m r)
