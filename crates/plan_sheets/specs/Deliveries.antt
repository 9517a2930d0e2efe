-- The table of messages: when each is ready, sent, and there for each of its receivers. Own profile.
use Rattle.std.specs.Prelude.{ℕ, ◌<◌, ◌≤◌, ◌==◌, if◌then◌else◌, List, [], ◌∷◌, ◌++◌, codes, decimal, length, slice_index}
use Rattle.std.specs.List.{flat_map, range_with_len}
use Rattle.ttp_model.specs.declared.plan.Plan.{Plan}
use Rattle.ttp_model.specs.Limits.{both_channels}
use Rattle.ttp_model.specs.Instance.{Instance, message_at, node_at, process_at, source_of}
use Rattle.ttp_model.specs.Plans.{channel_of, round_of, sent_from, sent_until, start_of}
use Rattle.plan_facts.specs.Messages.{arrival, ready_at}
use Rattle.plan_sheets.specs.declared.deliveries.Delivery.{Delivery}
use Rattle.plan_sheets.specs.Lines.{line_of}

-- message m on its way to process q
abbrev pub delivery_of : Instance → Plan → ℕ → ℕ → Delivery
delivery_of i plan m q = record {
  message = m;
  sender = (message_at i m).sender;
  receiver = q;
  bytes = (message_at i m).bytes;
  round = round_of plan m;
  channel = channel_of plan m;
  node = source_of i m;
  ready = ready_at i plan m;
  slot = sent_from i plan m;
  slot_end = sent_until i plan m;
  arrived = arrival i plan m;
  needed = start_of plan q;
}

-- the word for a message's channel: 0, 1 or both
unfoldable pub channel_word : ℕ → List ℕ
channel_word number = if number == both_channels then codes "both" else decimal number

-- its line: message,sender,receiver,bytes,round,channel,node,ready,slot,slot_end,arrived,needed, with names for message,
-- processes and node
abbrev pub delivery_line : Instance → Delivery → List ℕ
delivery_line i row =
    line_of ((message_at i row.message).name ∷ (process_at i row.sender).name ∷ (process_at i row.receiver).name ∷ decimal row.bytes ∷ decimal row.round ∷ channel_word row.channel ∷ (node_at i row.node).name ∷ decimal row.ready ∷ decimal row.slot ∷ decimal row.slot_end ∷ decimal row.arrived ∷ decimal row.needed ∷ [])

-- the line of this message and receiver
unfoldable pub delivery_text : Instance → Plan → ℕ → ℕ → List ℕ
delivery_text i plan m q = delivery_line i (delivery_of i plan m q)

-- the lines of a message, one for each receiver, in their order
unfoldable pub message_text : Instance → Plan → ℕ → List ℕ
message_text i plan m = flat_map (delivery_text i plan m) (message_at i m).receivers

-- the whole table, message by message
unfoldable pub deliveries_text : Instance → Plan → List ℕ
deliveries_text i plan =
    codes "message,sender,receiver,bytes,round,channel,node,ready,slot,slot_end,arrived,needed\n" ++ flat_map (message_text i plan) (range_with_len 0 (length i.messages))

-- what a row names is there
pub record IsDeliveryRow (i : Instance) (row : Delivery) : Type 0 where
  pub message : row.message < length i.messages
  pub sender : row.sender < length i.processes
  pub receiver : row.receiver < length i.processes
  pub node : row.node < length i.nodes

-- the row of a message and its receiver at place k: it is ready before its slot, and has arrived when it is needed
abbrev pub IsRowInTime : Delivery → Type 0
IsRowInTime row = (row.ready ≤ row.slot) × (row.arrived ≤ row.needed)

abbrev pub IsInTime : Instance → Plan → ℕ → ℕ → Type 0
IsInTime i plan m k = IsRowInTime (delivery_of i plan m (slice_index (message_at i m).receivers k))
