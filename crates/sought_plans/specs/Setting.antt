-- Which plans are sought, and how far each slot moves in them. Ticks, and bytes. Own profile.
use Rattle.std.specs.Prelude.{◌≡◌, ℕ, ◌^◌, ◌<◌, ◌≤◌, List, length, slice_index_or}
use Rattle.ttp_model.specs.Limits.{most_bytes, most_duration, most_round}
use Rattle.ttp_model.specs.Instance.{Instance}
use Rattle.ttp_model.specs.Rules.{IsInstance}
use Rattle.tt_choice.specs.Choice.{Choice, IsChoice}
use Rattle.tt_choice.specs.Extremes.{cap_least, cap_most, dur_least, dur_most, offset_least, offset_most}
use Rattle.ttp_model.specs.Totals.{total}
use Rattle.sought_plans.specs.declared.slots.SlotTimes.{SlotTimes}

-- the settled plans of a choice of an instance with a delay below a goal
pub record Setting : Type 0 where
  pub instance : Instance
  pub choice : Choice
  pub goal : ℕ

-- the least and the greatest times and capacities of the slot of node n
pub record AreSlotTimes (i : Instance) (c : Choice) (n : ℕ) (s : SlotTimes) : Type 0 where
  pub round_least : s.round_least ≡ total (dur_least i c) (length i.nodes)
  pub round_most : s.round_most ≡ total (dur_most i c) (length i.nodes)
  pub offset_least : s.offset_least ≡ offset_least i c n
  pub offset_most : s.offset_most ≡ offset_most i c n
  pub dur_least : s.dur_least ≡ dur_least i c n
  pub dur_most : s.dur_most ≡ dur_most i c n
  pub cap_least : s.cap_least ≡ cap_least i c n
  pub cap_most : s.cap_most ≡ cap_most i c n

-- no time is so long that sums of them don't fit, and no round is nothing
pub record AreShort (s : SlotTimes) : Type 0 where
  pub some_least : 0 < s.round_least
  pub some_most : 0 < s.round_most
  pub round_least : s.round_least ≤ most_round
  pub round_most : s.round_most ≤ most_round
  pub offset_least : s.offset_least < 2 ^ 57
  pub offset_most : s.offset_most < 2 ^ 57
  pub dur_least : s.dur_least ≤ most_duration
  pub dur_most : s.dur_most ≤ most_duration
  pub cap_least : s.cap_least ≤ most_bytes
  pub cap_most : s.cap_most ≤ most_bytes

-- no slot, which is read past the last one
abbrev pub no_slot_times : SlotTimes
no_slot_times = record {
  round_least = 0;
  round_most = 0;
  offset_least = 0;
  offset_most = 0;
  dur_least = 0;
  dur_most = 0;
  cap_least = 0;
  cap_most = 0;
}

-- the slot of this node
abbrev pub slot_times_at : List SlotTimes → ℕ → SlotTimes
slot_times_at slots n = slice_index_or slots n no_slot_times

-- the slots of all nodes
pub record AreSlots (i : Instance) (c : Choice) (slots : List SlotTimes) : Type 0 where
  pub count : length slots ≡ length i.nodes
  pub times : (n : ℕ) → n < length i.nodes → AreSlotTimes i c n (slot_times_at slots n)
  pub short : (n : ℕ) → n < length i.nodes → AreShort (slot_times_at slots n)

-- the choice is the instance's, and the slots are those of its nodes
pub record IsSetting (s : Setting) (all : List SlotTimes) : Type 0 where
  pub instance : IsInstance s.instance
  pub choice : IsChoice s.instance s.choice
  pub slots : AreSlots s.instance s.choice all
