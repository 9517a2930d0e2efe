-- Why a frame is too full: what it has, what it may have, and its messages; in bytes. Own profile.
use Rattle.std.specs.Prelude.{◌≡◌, ℕ, ◌+◌, ◌<◌, Option, slice_index}
use Rattle.std.specs.Option.{unwrap_or}
use Rattle.ttp_model.specs.declared.plan.Plan.{Plan}
use Rattle.ttp_model.specs.Instance.{Instance, message_at}
use Rattle.ttp_model.specs.Names.{message_name, node_name}
use Rattle.ttp_model.specs.Plans.{load_on}
use Rattle.plan_facts.specs.Frames.{messages_on}
use Rattle.sentences.specs.Lists.{AreTold}
use Rattle.plan_reasons.specs.declared.frames.FrameMessage.{FrameMessage}
use Rattle.plan_reasons.specs.declared.frames.Overfull.{Overfull}

-- message m, with its bytes
abbrev pub IsFrameMessage : Instance → ℕ → FrameMessage → Type 0
IsFrameMessage i m x = (x.message.now ≡ message_name i m) × (x.bytes ≡ (message_at i m).bytes)

-- where no channel is told there is one, channel 0
abbrev pub channel_number : Option ℕ → ℕ
channel_number channel = unwrap_or channel 0

-- the frame of node n in round r has more on a channel than its capacity
pub record IsOverfull (i : Instance) (plan : Plan) (n r : ℕ) (channel : Option ℕ) (x : Overfull) : Type 0 where
  pub node_is : x.node.now ≡ node_name i n
  pub round_is : x.round ≡ r
  pub channel_is : x.channel ≡ channel
  pub capacity_is : x.capacity ≡ slice_index plan.caps n
  pub load_is : x.load ≡ load_on i plan n r (channel_number channel)
  pub some : 0 < x.by
  pub past : x.capacity + x.by ≡ x.load
  pub messages_are : AreTold (IsFrameMessage i) (messages_on i plan n r (channel_number channel)) x.messages.items
