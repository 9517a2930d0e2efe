-- The text of a replay: a first line, each slot's line with those of its events, and each node's members at the end.
-- Own profile.
use Rattle.std.specs.Prelude.{ℕ, List, [], ◌∷◌, ◌++◌, Bool, codes, decimal, if◌then◌else◌, length}
use Rattle.std.specs.List.{flat_map, range_with_len}
use Rattle.ttp_model.specs.Instance.{Instance}
use Rattle.ttp_model.specs.Names.{message_name, node_name}
use Rattle.line_text.specs.Words.{spaced, spaced_words}
use Rattle.membership_replay.specs.declared.state.NodeState.{NodeState}
use Rattle.membership_replay.specs.declared.trace.Event.{Event}
use Rattle.membership_replay.specs.declared.trace.Event.TheVariants.{Ack, Doubt, Leave, Drop, Deliver}
use Rattle.membership_replay.specs.declared.trace.Slot.{Slot}
use Rattle.membership_replay.specs.Machine.{has_member}
use Rattle.membership_replay.specs.Trace.{Trace, state_at}

-- a line: a keyword, words after one space each, and the line's end
abbrev pub line : List ℕ → List (List ℕ) → List ℕ
line keyword words = keyword ++ spaced_words words ++ codes "\n"

-- the line of an event, nodes and messages by their names
unfoldable pub event_line : Instance → Event → List ℕ
event_line i (Ack n) = line (codes "ack") (node_name i n ∷ [])
event_line i (Doubt n) = line (codes "doubt") (node_name i n ∷ [])
event_line i (Leave n) = line (codes "leave") (node_name i n ∷ [])
event_line i (Drop n s) = line (codes "drop") (node_name i n ∷ node_name i s ∷ [])
event_line i (Deliver m n) = line (codes "deliver") (message_name i m ∷ node_name i n ∷ [])

-- whether the slot's sender sent, as a word
abbrev pub sent_word : Bool → List ℕ
sent_word sent = if sent then codes "sent" else codes "silent"

-- what a slot's line has behind its keyword
abbrev pub slot_words : Instance → Slot → List (List ℕ)
slot_words i slot = decimal slot.round ∷ decimal slot.position ∷ node_name i slot.sender ∷ sent_word slot.sent ∷ []

-- the line of a slot and those of its events
unfoldable pub slot_text : Instance → Slot → List ℕ
slot_text i slot = line (codes "slot") (slot_words i slot) ++ flat_map (event_line i) slot.events

-- a node's name, where the vector has it as a member
unfoldable pub member_word : Instance → List Bool → ℕ → List ℕ
member_word i vector n = if has_member vector n then spaced (node_name i n) else []

-- the line of a node's members, in the instance's order
unfoldable pub member_line : Instance → List NodeState → ℕ → List ℕ
member_line i states n =
    codes "member" ++ spaced (node_name i n) ++ flat_map (member_word i (state_at states n).vector) (range_with_len 0 (length i.nodes)) ++ codes "\n"

-- the whole text
abbrev pub replay_text : Instance → Trace → List ℕ
replay_text i r =
    codes "ttreplay 1\n" ++ flat_map (slot_text i) r.slots ++ flat_map (member_line i r.states) (range_with_len 0 (length r.states))
