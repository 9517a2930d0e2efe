-- The table of slots: when each begins and ends, and what it carries. Own profile.
use Rattle.std.specs.Prelude.{ℕ, ◌+◌, ◌<◌, List, [], ◌∷◌, ◌++◌, All, codes, decimal, drop, length, slice_index}
use Rattle.std.specs.List.{flat_map, range_with_len}
use Rattle.ttp_model.specs.declared.plan.Plan.{Plan}
use Rattle.ttp_model.specs.Instance.{Instance, message_at, node_at}
use Rattle.ttp_model.specs.Plans.{load_on}
use Rattle.ttp_model.specs.Slots.{frame_length, slot_end, slot_start}
use Rattle.tt_layout.specs.Cycle.{cycle_rounds}
use Rattle.plan_facts.specs.Frames.{messages_on}
use Rattle.line_text.specs.Words.{spaced}
use Rattle.plan_sheets.specs.declared.slots.Slot.{Slot}
use Rattle.plan_sheets.specs.Lines.{line_of}

-- the slot of node n in round r, at position k of the order, on channel c
abbrev pub slot_at : Instance → Plan → ℕ → ℕ → ℕ → ℕ → Slot
slot_at i plan r k c n = record {
  round = r;
  position = k;
  channel = c;
  node = n;
  start = slot_start i.cluster plan.order plan.caps n r;
  frame = slot_start i.cluster plan.order plan.caps n r + i.cluster.lead;
  frame_end = slot_start i.cluster plan.order plan.caps n r + i.cluster.lead + frame_length i.cluster (slice_index plan.caps n);
  end = slot_end i.cluster plan.order plan.caps n r;
  capacity = slice_index plan.caps n;
  used = load_on i plan n r c;
  messages = messages_on i plan n r c;
}

-- the slot at position k of the order in round r, on channel c
abbrev pub slot_of : Instance → Plan → ℕ → ℕ → ℕ → Slot
slot_of i plan r k c = slot_at i plan r k c (slice_index plan.order k)

-- the names of messages, each with a space before it
abbrev pub spaced_names : Instance → List ℕ → List ℕ
spaced_names i messages = flat_map (λ m. spaced (message_at i m).name) messages

-- a slot's line: round,position,channel,node,start,frame,frame_end,end,capacity,used,messages, the node by its name, and
-- the messages by theirs, parted by spaces
abbrev pub slot_line : Instance → Slot → List ℕ
slot_line i row =
    line_of (decimal row.round ∷ decimal row.position ∷ decimal row.channel ∷ (node_at i row.node).name ∷ decimal row.start ∷ decimal row.frame ∷ decimal row.frame_end ∷ decimal row.end ∷ decimal row.capacity ∷ decimal row.used ∷ drop 1 (spaced_names i row.messages) ∷ [])

-- the line of the slot at this position on this channel
unfoldable pub slot_text : Instance → Plan → ℕ → ℕ → ℕ → List ℕ
slot_text i plan r k c = slot_line i (slot_of i plan r k c)

-- the lines of the slot at this position, one for each channel
unfoldable pub position_text : Instance → Plan → ℕ → ℕ → List ℕ
position_text i plan r k = flat_map (slot_text i plan r k) (range_with_len 0 i.cluster.channels)

-- the lines of a round, in the order of the slots
unfoldable pub round_text : Instance → Plan → ℕ → List ℕ
round_text i plan r = flat_map (position_text i plan r) (range_with_len 0 (length i.nodes))

-- the whole table, round by round
unfoldable pub slots_text : Instance → Plan → List ℕ
slots_text i plan =
    codes "round,position,channel,node,start,frame,frame_end,end,capacity,used,messages\n" ++ flat_map (round_text i plan) (range_with_len 0 (cycle_rounds i plan))

-- the node and the messages that a row names are there
pub record IsSlotRow (i : Instance) (row : Slot) : Type 0 where
  pub node : row.node < length i.nodes
  pub messages : All (λ m. m < length i.messages) row.messages
