-- What a node's table says of each slot of a plan's cycle. Own profile: the tables are named after the message
-- descriptor lists of TTP (SAE AS6003), and defined here alone.
use Rattle.std.specs.Prelude.{ℕ, List, map, filter, length, slice_index, Bool, ◌&&◌, ◌||◌, ◌==◌}
use Rattle.std.specs.List.{flat_map, list_any, range_with_len}
use Rattle.ttp_model.specs.declared.plan.Plan.{Plan}
use Rattle.ttp_model.specs.Instance.{Instance, message_at, node_of, source_of}
use Rattle.ttp_model.specs.Plans.{bytes_on, is_in_frame_on}
use Rattle.ttp_model.specs.Totals.{total}
use Rattle.tt_layout.specs.Cycle.{cycle_rounds}
use Rattle.medl_tables.specs.declared.row.Entry.{Entry}
use Rattle.medl_tables.specs.declared.row.Row.{Row}

-- whether a message has a receiver on the node
abbrev pub is_received_on : Instance → ℕ → ℕ → Bool
is_received_on i node m = list_any (λ q. node_of i q == node) (message_at i m).receivers

-- whether the node's table shows it: its sender's does, and that of a node with a receiver
abbrev pub is_shown_on : Instance → ℕ → ℕ → Bool
is_shown_on i node m = source_of i m == node || is_received_on i node m

-- a message of the frame, behind the bytes of all messages before it on that channel, also of those that aren't shown
abbrev pub entry_of : Instance → Plan → ℕ → ℕ → ℕ → ℕ → Entry
entry_of i plan n r c m = record { message = m; channel = c; offset = total (bytes_on i plan n r c) m }

-- whether the node's table shows it as one of that frame
abbrev pub is_entry : Instance → Plan → ℕ → ℕ → ℕ → ℕ → ℕ → Bool
is_entry i plan node n r c m = is_in_frame_on i plan n r c m && is_shown_on i node m

-- what the node's table shows of the frame of node n in round r on channel c, in the instance's order
abbrev pub entries_on : Instance → Plan → ℕ → ℕ → ℕ → ℕ → List Entry
entries_on i plan node n r c =
    filter (λ e. is_entry i plan node n r c e.message) (map (entry_of i plan n r c) (range_with_len 0 (length i.messages)))

-- what it shows of that frame on each channel, all of channel 0 before all of channel 1
abbrev pub entries_of : Instance → Plan → ℕ → ℕ → ℕ → List Entry
entries_of i plan node n r = flat_map (entries_on i plan node n r) (range_with_len 0 i.cluster.channels)

-- the row of the node's table for the slot at position k of the order, in round r
abbrev pub row_of : Instance → Plan → ℕ → ℕ → ℕ → Row
row_of i plan node r k = record {
  round = r;
  position = k;
  sender = slice_index plan.order k;
  capacity = slice_index plan.caps (slice_index plan.order k);
  messages = entries_of i plan node (slice_index plan.order k) r;
}

-- the rows of a round, one for each slot
abbrev pub round_rows : Instance → Plan → ℕ → ℕ → List Row
round_rows i plan node r = map (row_of i plan node r) (range_with_len 0 (length plan.order))

-- the node's table: the rows of the cycle, in order of time
abbrev pub rows_of : Instance → Plan → ℕ → List Row
rows_of i plan node = flat_map (round_rows i plan node) (range_with_len 0 (cycle_rounds i plan))
