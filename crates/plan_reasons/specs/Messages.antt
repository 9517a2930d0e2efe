-- Why a message isn't ready or there in time, or is on another channel: by how much, in ticks. Own profile.
use Rattle.std.specs.Prelude.{◌≡◌, ◌≢◌, ℕ, ◌+◌, ◌<◌, false, true}
use Rattle.ttp_model.specs.declared.plan.Plan.{Plan}
use Rattle.ttp_model.specs.Instance.{Instance, message_at, source_of}
use Rattle.ttp_model.specs.Names.{message_name, place_name, process_name, sender_name, source_name}
use Rattle.ttp_model.specs.Plans.{MayBeOn, channel_of, end_of, round_of, sent_from, sent_until, start_of}
use Rattle.ttp_model.specs.Slots.{slot_start}
use Rattle.plan_facts.specs.Messages.{IsFirstInTime, arrival, ready_at}
use Rattle.plan_reasons.specs.declared.messages.AllowedChannels.{AllowedChannels}
use Rattle.plan_reasons.specs.declared.messages.AllowedChannels.TheVariants.{Any, Both, Only}
use Rattle.plan_reasons.specs.declared.messages.NotArrived.{NotArrived}
use Rattle.plan_reasons.specs.declared.messages.NotReady.{NotReady}
use Rattle.plan_reasons.specs.declared.messages.WrongChannel.{WrongChannel}

-- the slot of message m begins before it is copied out; and in which round it would begin in time
pub record IsNotReady (i : Instance) (plan : Plan) (m : ℕ) (r : NotReady) : Type 0 where
  pub message_is : r.message.now ≡ message_name i m
  pub sender_is : r.sender.now ≡ sender_name i m
  pub node_is : r.node.now ≡ source_name i m
  pub end_is : r.end ≡ end_of i plan (message_at i m).sender
  pub copy_out_is : r.copy_out ≡ i.cluster.copy_out
  pub ready_is : r.ready ≡ ready_at i plan m
  pub round_is : r.round ≡ round_of plan m
  pub slot_is : r.slot ≡ sent_from i plan m
  pub some : 0 < r.by
  pub lacking : r.slot + r.by ≡ r.ready
  pub first_is : IsFirstInTime i plan m r.first_in_time
  pub first_slot_is : r.first_slot ≡ slot_start i.cluster plan.order plan.caps (source_of i m) r.first_in_time

-- process q starts before message m is copied in
pub record IsNotArrived (i : Instance) (plan : Plan) (m q : ℕ) (r : NotArrived) : Type 0 where
  pub message_is : r.message.now ≡ message_name i m
  pub source_is : r.source.now ≡ source_name i m
  pub round_is : r.round ≡ round_of plan m
  pub slot_end_is : r.slot_end ≡ sent_until i plan m
  pub copy_in_is : r.copy_in ≡ i.cluster.copy_in
  pub there_is : r.there ≡ arrival i plan m
  pub receiver_is : r.receiver.now ≡ process_name i q
  pub node_is : r.node.now ≡ place_name i q
  pub start_is : r.start ≡ start_of plan q
  pub some : 0 < r.by
  pub lacking : r.start + r.by ≡ r.there

-- the channels that message m may be on: the only one, both where it is to be on both, and else any
abbrev pub IsAllowed : Instance → ℕ → AllowedChannels → Type 0
IsAllowed i m Only = i.cluster.channels ≡ 1
IsAllowed i m Both = (i.cluster.channels ≢ 1) × ((message_at i m).both ≡ true)
IsAllowed i m Any = (i.cluster.channels ≢ 1) × ((message_at i m).both ≡ false)

-- message m is on another
pub record IsWrongChannel (i : Instance) (plan : Plan) (m : ℕ) (r : WrongChannel) : Type 0 where
  pub message_is : r.message.now ≡ message_name i m
  pub allowed_are : IsAllowed i m r.allowed
  pub channel_is : r.channel ≡ channel_of plan m
  pub wrong : ¬ MayBeOn i m r.channel
