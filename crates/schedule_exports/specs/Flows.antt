-- What a trace tells: slots of the cycle, and messages on their way. Own profile.
use Rattle.std.specs.Prelude.{◌≡◌, ℕ, ◌<◌, length}
use Rattle.ttp_model.specs.declared.plan.Plan.{Plan}
use Rattle.ttp_model.specs.Instance.{Instance, message_at}
use Rattle.ttp_model.specs.Plans.{end_of, sent_from, start_of}
use Rattle.plan_sheets.specs.declared.slots.Slot.{Slot}
use Rattle.plan_sheets.specs.Slots.{slot_of}
use Rattle.schedule_exports.specs.declared.flows.Flow.{Flow}

-- a slot as the table of slots has it
abbrev pub IsSlotOfCycle : Instance → Plan → Slot → Type 0
IsSlotOfCycle i plan slot = slot ≡ slot_of i plan slot.round slot.position slot.channel

-- a message from the end of its sender, by its slot, to the start of a receiver
pub record IsFlow (i : Instance) (plan : Plan) (flow : Flow) : Type 0 where
  pub there : flow.message < length i.messages
  pub sent : flow.sent ≡ end_of i plan (message_at i flow.message).sender
  pub slot : flow.slot ≡ sent_from i plan flow.message
  pub needed : flow.needed ≡ start_of plan flow.receiver
