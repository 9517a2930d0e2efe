-- The decisions of a path, each with the level of its branch, and which of them is the last to say a part of the choice. Own profile.
use Rattle.std.specs.Prelude.{◌≡◌, ℕ, ◌∷◌, [], ◌++◌, List, length, Bool, true, if◌then◌else◌, Option, None, Some, map, take, ◌-◌, All, IsTrue, IsFalse}
use Rattle.ttp_model.specs.Instance.{Instance}
use Rattle.tt_choice.specs.declared.decision.Decision.{Decision}
use Rattle.tt_choice.specs.declared.decision.Decision.TheVariants as decided
use Rattle.tt_choice.specs.Kept.{fixes_channel}
use Rattle.used_decisions.specs.declared.turn.Turn.{Turn}
use Rattle.used_decisions.specs.declared.turn.Cut.{Cut}
use Rattle.used_decisions.specs.declared.turn.OnChannel.{OnChannel}
use Rattle.used_decisions.specs.declared.turn.Placed.{Placed}

-- an instance, and the decisions of a path, the first first
pub record Path : Type 0 where
  pub instance : Instance
  pub turns : List Turn

-- the path with one decision more
abbrev pub path_after : Path → Turn → Path
path_after path turn = record path { turns = path.turns ++ turn ∷ [] }

-- the path without its last decision
abbrev pub path_above : Path → Path
path_above path = record path { turns = take (length path.turns - 1) path.turns }

-- the later one of two: one behind, and else one that is picked
abbrev pub later_of : Bool → Turn → Option Turn → Option Turn
later_of picked turn None = if picked then Some turn else None
later_of picked turn (Some behind) = Some behind

-- the last decision that a test picks: none behind it is picked
abbrev pub last_of : (Decision → Bool) → List Turn → Option Turn
last_of picks [] = None
last_of picks (turn ∷ turns) = later_of (picks turn.decision) turn (last_of picks turns)

-- its level
abbrev pub level_of : Option Turn → Option ℕ
level_of None = None
level_of (Some turn) = Some turn.level

-- the round that a decision sets
abbrev pub round_of : Decision → ℕ
round_of (decided.Place n) = 0
round_of (decided.Cap n k) = 0
round_of (decided.Before p q) = 0
round_of (decided.AtMost m r) = r
round_of (decided.AtLeast m r) = r
round_of (decided.Channel m k) = 0

-- the round that it sets, and its level
abbrev pub cut_of : Option Turn → Option Cut
cut_of None = None
cut_of (Some turn) = Some (record { round = round_of turn.decision; level = turn.level })

-- a decision fixes the channel of message m, whichever it is
abbrev pub fixes_any : ℕ → Decision → Bool
fixes_any m = fixes_channel (λ k. true) m

-- the channel that a decision fixes
abbrev pub channel_of : Decision → ℕ
channel_of (decided.Place n) = 0
channel_of (decided.Cap n k) = 0
channel_of (decided.Before p q) = 0
channel_of (decided.AtMost m r) = 0
channel_of (decided.AtLeast m r) = 0
channel_of (decided.Channel m k) = k

-- the channel that it fixes, and its level
abbrev pub on_channel_of : Option Turn → Option OnChannel
on_channel_of None = None
on_channel_of (Some turn) = Some (record { channel = channel_of turn.decision; level = turn.level })

-- the node that a decision places, if it places one
abbrev pub placed_by : Decision → ℕ → List Placed
placed_by (decided.Place n) level = record { node = n; level = level } ∷ []
placed_by (decided.Cap n k) level = []
placed_by (decided.Before p q) level = []
placed_by (decided.AtMost m r) level = []
placed_by (decided.AtLeast m r) level = []
placed_by (decided.Channel m k) level = []

-- the nodes that decisions place, the first first
abbrev pub placed_of : List Turn → List Placed
placed_of [] = []
placed_of (turn ∷ turns) = placed_by turn.decision turn.level ++ placed_of turns

-- the slot order, as far as it is decided
abbrev pub nodes_of : List Placed → List ℕ
nodes_of placed = map (λ one. one.node) placed

-- a decision of a path is the last one that a test picks
pub record IsLast (picks : Decision → Bool) (turns : List Turn) (turn : Turn) : Type 0 where
  pub front : List Turn
  pub behind : List Turn
  pub are : turns ≡ front ++ turn ∷ behind
  pub picked : IsTrue (picks turn.decision)
  pub no_later : All (λ later. IsFalse (picks later.decision)) behind
