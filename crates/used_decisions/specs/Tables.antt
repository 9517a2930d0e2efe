-- Tables of what the decisions of a path say, each part with the branch that said it last. Only private contracts ask for it.
use Rattle.std.specs.Prelude.{◌≡◌, ℕ, ◌*◌, ◌/◌, ◌%◌, ◌<◌, ◌+◌, List, [], ◌∷◌, ◌++◌, length, map, slice_index_or, Bool, ◌&&◌, nat_lt, if◌then◌else◌, Option, None}
use Rattle.ttp_model.specs.Instance.{Instance}
use Rattle.tt_choice.specs.declared.decision.Decision.{Decision}
use Rattle.tt_choice.specs.declared.decision.Decision.TheVariants as decided
use Rattle.tt_choice.specs.Kept.{sets_least, sets_greatest, sets_order, fixes_above, fixes_below}
use Rattle.used_decisions.specs.declared.turn.Turn.{Turn}
use Rattle.used_decisions.specs.declared.turn.Cut.{Cut}
use Rattle.used_decisions.specs.declared.turn.OnChannel.{OnChannel}
use Rattle.used_decisions.specs.declared.turn.Placed.{Placed}
use Rattle.used_decisions.specs.declared.tables.Tables.{Tables}
use Rattle.used_decisions.specs.declared.tables.Stood.{Stood}
use Rattle.used_decisions.specs.declared.path.Taken.{Taken}
use Rattle.used_decisions.specs.Turns.{last_of, level_of, cut_of, fixes_any, on_channel_of, placed_of}

-- a list has so many places, and at each stands what the last decision on it tells
pub record IsTable (X : Type 0) (tells : Option Turn → Option X) (picks : ℕ → Decision → Bool) (count : ℕ) (items : List (Option X)) (turns : List Turn) : Type 0 where
  pub room : length items ≡ count
  pub told : (k : ℕ) → k < count → slice_index_or items k None ≡ tells (last_of (picks k) turns)

-- where the order of two processes stands in a square table; behind it, where one of them isn't there
abbrev pub order_place : ℕ → ℕ → ℕ → ℕ
order_place count p q = if nat_lt p count && nat_lt q count then p * count + q else count * count

-- a decision orders the two processes whose place this is
abbrev pub orders_at : ℕ → ℕ → Decision → Bool
orders_at count place = sets_order (place / count) (place % count)

-- lists tell what these decisions say, the last of them on each part
pub record AreTold (i : Instance) (turns : List Turn) (order : List Placed) (above below before : List (Option ℕ)) (least greatest : List (Option Cut)) (channels : List (Option OnChannel)) : Type 0 where
  pub placed : order ≡ placed_of turns
  pub fixed_above : IsTable ℕ level_of fixes_above (length i.nodes) above turns
  pub fixed_below : IsTable ℕ level_of (fixes_below i) (length i.nodes) below turns
  pub ordered : IsTable ℕ level_of (orders_at (length i.processes)) (length i.processes * length i.processes) before turns
  pub from : IsTable Cut cut_of sets_least (length i.messages) least turns
  pub until : IsTable Cut cut_of sets_greatest (length i.messages) greatest turns
  pub on_channels : IsTable OnChannel on_channel_of fixes_any (length i.messages) channels turns

-- so do tables
abbrev pub AreTables : Instance → List Turn → Tables → Type 0
AreTables i turns t = AreTold i turns t.order.items t.above_least.items t.below_most.items t.before.items t.least.items t.greatest.items t.channels.items

-- this stood in the tables of these decisions, where the next one tells
abbrev pub IsStood : Instance → List Turn → Decision → Stood → Type 0
IsStood i turns (decided.Place n) s = Unit {0}
IsStood i turns (decided.Cap n k) s =
    n < length i.nodes → (s.level ≡ level_of (last_of (fixes_above n) turns)) × (s.below ≡ level_of (last_of (fixes_below i n) turns))
IsStood i turns (decided.Before p q) s =
    p < length i.processes → q < length i.processes → s.level ≡ level_of (last_of (sets_order p q) turns)
IsStood i turns (decided.AtMost m r) s = m < length i.messages → s.cut ≡ cut_of (last_of (sets_greatest m) turns)
IsStood i turns (decided.AtLeast m r) s = m < length i.messages → s.cut ≡ cut_of (last_of (sets_least m) turns)
IsStood i turns (decided.Channel m k) s = m < length i.messages → s.channel ≡ on_channel_of (last_of (fixes_any m) turns)

-- tables tell a decision more, and this is what stood before it
pub record Tells (i : Instance) (turns : List Turn) (turn : Turn) (t : Tables) (stood : Stood) : Type 0 where
  pub tables : AreTables i (turns ++ turn ∷ []) t
  pub stood_so : IsStood i turns turn.decision stood

-- of each decision behind others it is told what stood before it
abbrev pub AreStood : Instance → List Turn → List Taken → Type 0
AreStood i front [] = Unit {0}
AreStood i front (one ∷ more) = IsStood i front one.turn.decision one.stood × AreStood i (front ++ one.turn ∷ []) more

-- the decisions that were taken
abbrev pub turns_of : List Taken → List Turn
turns_of taken = map (λ one. one.turn) taken

-- tables tell what decisions say that were taken, and what stood before each is known
pub record IsPath (i : Instance) (t : Tables) (taken : List Taken) : Type 0 where
  pub tables : AreTables i (turns_of taken) t
  pub stood : AreStood i [] taken
