-- The replay of a cycle: the step of every node, slot after slot. Own profile.
use Rattle.std.specs.Prelude.{ℕ, zero, suc, List, [], ◌∷◌, ◌++◌, length, map, slice_index_or, Bool, ◌&&◌, ◌==◌, not, nat_lt, if◌then◌else◌}
use Rattle.std.specs.List.{flat_map, list_any, range_with_len}
use Rattle.ttp_model.specs.Limits.{most_messages, most_nodes}
use Rattle.medl_tables.specs.declared.row.Entry.{Entry}
use Rattle.medl_tables.specs.declared.row.Row.{Row}
use Rattle.medl_tables.specs.Medl.{Medl}
use Rattle.membership_replay.specs.declared.loss.Loss.{Loss}
use Rattle.membership_replay.specs.declared.state.NodeState.{NodeState}
use Rattle.membership_replay.specs.declared.state.Phase.TheVariants.{Idle, First}
use Rattle.membership_replay.specs.declared.state.Step.{Step}
use Rattle.membership_replay.specs.declared.state.Step.TheVariants.{Nothing, Drops, Acknowledges, Doubts, Confirms, Leaves}
use Rattle.membership_replay.specs.declared.trace.Event.{Event}
use Rattle.membership_replay.specs.declared.trace.Event.TheVariants.{Ack, Doubt, Leave, Drop, Deliver}
use Rattle.membership_replay.specs.declared.trace.Slot.{Slot}
use Rattle.membership_replay.specs.Machine.{has_member, is_same, state_after, step_of}

-- what is read past the end of a list: no clause reads there
abbrev pub no_row : Row
no_row = record { round = 0; position = 0; sender = 0; capacity = 0; messages = [] }

-- the same of a node that isn't there
abbrev pub no_state : NodeState
no_state = record { vector = []; phase = Idle }

-- the row of a node's table for the slot of this number in the cycle
abbrev pub row_at : Medl → ℕ → ℕ → Row
row_at t node slot = slice_index_or (slice_index_or t.rows node []) slot no_row

-- whether the frame of a row's slot is lost at a node
abbrev pub is_lost : List Loss → Row → ℕ → Bool
is_lost losses row i = list_any (λ l. (l.round == row.round && l.slot == row.position) && l.receiver == i) losses

-- what a node knows at first: all nodes are members, and it is idle
abbrev pub first_state : ℕ → NodeState
first_state count = record { vector = map (λ k. nat_lt k count) (range_with_len 0 most_nodes); phase = Idle }

-- what all know at first
abbrev pub first_states : ℕ → List NodeState
first_states count = map (λ i. first_state count) (range_with_len 0 count)

-- what a node knows
abbrev pub state_at : List NodeState → ℕ → NodeState
state_at states i = slice_index_or states i no_state

-- a node is active while it is a member of its own vector
abbrev pub is_active : List NodeState → ℕ → Bool
is_active states i = has_member (state_at states i).vector i

-- whether a node receives the frame of a row's slot: it was sent, and isn't lost there
abbrev pub is_received : Row → List Loss → List NodeState → ℕ → Bool
is_received row losses states i = is_active states row.sender && not (is_lost losses row i)

-- what an active node that isn't the sender does in that slot
abbrev pub step_at : Row → List Loss → List NodeState → ℕ → Step
step_at row losses states i =
    step_of (state_at states i).phase i (is_received row losses states i) (state_at states row.sender).vector (state_at states i).vector

-- what an active node knows after that slot: its sender waits to be acknowledged
abbrev pub active_state : Row → List Loss → List NodeState → ℕ → NodeState
active_state row losses states i =
    if i == row.sender then record { vector = (state_at states i).vector; phase = First }
    else state_after (step_at row losses states i) i row.sender (state_at states i)

-- what a node knows after that slot
unfoldable pub next_state : Row → List Loss → List NodeState → ℕ → NodeState
next_state row losses states i = if is_active states i then active_state row losses states i else state_at states i

-- what all know after that slot
abbrev pub next_states : Row → List Loss → List NodeState → List NodeState
next_states row losses states = map (next_state row losses states) (range_with_len 0 (length states))

-- what all know before the slot of this number: the steps of those before it, one after another
unfoldable pub states_before : Medl → List Loss → ℕ → List NodeState
states_before t losses zero = first_states (length t.rows)
states_before t losses (suc slot) = next_states (row_at t 0 slot) losses (states_before t losses slot)

-- that a node drops another is told where it counted it as a member
abbrev pub drop_events : ℕ → ℕ → List Bool → List Event
drop_events i b vector = if has_member vector b then Drop i b ∷ [] else []

-- what is told of a step
abbrev pub step_events : Step → ℕ → ℕ → List Bool → List Event
step_events Nothing i s vector = []
step_events Drops i s vector = drop_events i s vector
step_events Acknowledges i s vector = Ack i ∷ []
step_events Doubts i s vector = Doubt i ∷ []
step_events (Confirms b) i s vector = Ack i ∷ drop_events i b vector
step_events Leaves i s vector = Leave i ∷ []

-- whether a node takes the frame's messages: it received it, and after its step is active and agrees with it
abbrev pub takes_messages : Row → List Loss → List NodeState → ℕ → Bool
takes_messages row losses states i =
    let after = (next_state row losses states i).vector in
    (is_received row losses states i && has_member after i) && is_same (state_at states row.sender).vector after

-- whether a message is one of these entries, on whatever channel
abbrev pub is_listed : List Entry → ℕ → Bool
is_listed messages m = list_any (λ e. e.message == m) messages

-- that a message is delivered at a node is told where it is one of them
unfoldable pub delivery : ℕ → List Entry → ℕ → List Event
delivery i messages m = if is_listed messages m then Deliver m i ∷ [] else []

-- what is told of messages that are delivered at a node: of each once, in the instance's order
unfoldable pub deliveries : ℕ → List Entry → List Event
deliveries i messages = flat_map (delivery i messages) (range_with_len 0 most_messages)

-- whether anything is told of a node in that slot: nothing is of the sender itself, nor of one that isn't active
abbrev pub is_told : Row → List NodeState → ℕ → Bool
is_told row states i = is_active states i && not (i == row.sender)

-- what is told of a node in that slot, where these messages of the frame have a receiver on it
unfoldable pub node_events : Row → List Loss → List Entry → List NodeState → ℕ → List Event
node_events row losses messages states i =
    if is_told row states i
    then step_events (step_at row losses states i) i row.sender (state_at states i).vector
    ++ (if takes_messages row losses states i then deliveries i messages else [])
    else []

-- what is told of all nodes in the slot of this number
abbrev pub slot_events : Medl → List Loss → List NodeState → ℕ → List Event
slot_events t losses states slot =
    flat_map (λ i. node_events (row_at t 0 slot) losses (row_at t i slot).messages states i) (range_with_len 0 (length states))

-- what is told of that slot, where these are the states before it
abbrev pub slot_with : Medl → List Loss → List NodeState → ℕ → Slot
slot_with t losses states slot = record {
  round = (row_at t 0 slot).round;
  position = (row_at t 0 slot).position;
  sender = (row_at t 0 slot).sender;
  sent = is_active states (row_at t 0 slot).sender;
  events = slot_events t losses states slot;
}

-- what is told of the slot of this number
unfoldable pub slot_of : Medl → List Loss → ℕ → Slot
slot_of t losses slot = slot_with t losses (states_before t losses slot) slot

-- how many slots a cycle has
abbrev pub slot_count : Medl → ℕ
slot_count t = length (slice_index_or t.rows 0 [])

-- what is told of a cycle: its slots, and what all know at its end
pub record Trace : Type 0 where
  pub slots : List Slot
  pub states : List NodeState

-- the replay of the tables' cycle with these losses
abbrev pub replay_of : Medl → List Loss → Trace
replay_of t losses = record {
  slots = map (slot_of t losses) (range_with_len 0 (slot_count t));
  states = states_before t losses (slot_count t);
}
