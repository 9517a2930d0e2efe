-- What a node does in a slot in which it isn't the sender. Own profile: the service is named after the membership
-- of TTP (SAE AS6003), and defined here alone.
use Rattle.std.specs.Prelude.{ℕ, List, Bool, false, ◌&&◌, if◌then◌else◌, slice_index_or, slice_set}
use Rattle.std.specs.Cmp.Lexicographic.{pointwise}
use Rattle.std.specs.Bool.{beq}
use Rattle.membership_replay.specs.declared.state.NodeState.{NodeState}
use Rattle.membership_replay.specs.declared.state.Phase.{Phase}
use Rattle.membership_replay.specs.declared.state.Phase.TheVariants.{Idle, First, Second}
use Rattle.membership_replay.specs.declared.state.Step.{Step}
use Rattle.membership_replay.specs.declared.state.Step.TheVariants.{Nothing, Drops, Acknowledges, Doubts, Confirms, Leaves}

-- whether a vector has a node among its members
abbrev pub has_member : List Bool → ℕ → Bool
has_member vector n = slice_index_or vector n false

-- the vector without a node
abbrev pub without : List Bool → ℕ → List Bool
without vector n = slice_set vector n false

-- whether two vectors have the same members
abbrev pub is_same : List Bool → List Bool → Bool
is_same v w = pointwise beq v w

-- What node i does, by its phase: the first case that fits. It received the frame, or it didn't; the frame shows
-- the sender's vector.
abbrev pub step_of : Phase → ℕ → Bool → List Bool → List Bool → Step
step_of Idle i received shown vector =
    if received && is_same shown vector then Nothing else Drops
step_of First i received shown vector =
    if received && is_same shown vector then Acknowledges
    else (if received && is_same shown (without vector i) then Doubts else Drops)
step_of (Second b) i received shown vector =
    if received && is_same shown (without vector b) then Confirms b
    else (if received && is_same shown (without vector i) then Leaves else Drops)

-- the node's state after a step in a slot of sender s
abbrev pub state_after : Step → ℕ → ℕ → NodeState → NodeState
state_after Nothing i s state = state
state_after Drops i s state = record { vector = without state.vector s; phase = state.phase }
state_after Acknowledges i s state = record { vector = state.vector; phase = Idle }
state_after Doubts i s state = record { vector = state.vector; phase = Second s }
state_after (Confirms b) i s state = record { vector = without state.vector b; phase = Idle }
state_after Leaves i s state = record { vector = without state.vector i; phase = state.phase }
