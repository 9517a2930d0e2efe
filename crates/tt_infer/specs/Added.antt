-- Facts that are added to a list, and what one process, message or pair adds to those that a step reads.
use Rattle.std.specs.Prelude.{◌≡◌, ℕ, ◌+◌, ◌⊎◌, List, slice_index, Contains, IsTrue}
use Rattle.ttp_model.specs.Instance.{Instance, source_of}
use Rattle.ttp_model.specs.Graph.{Leads}
use Rattle.tt_choice.specs.Choice.{Choice}
use Rattle.sought_plans.specs.Known.{Known}
use Rattle.sought_plans.specs.Premises.{runs_within, sent_within}
use Rattle.sought_plans.specs.Dominance.{IsSentTo}
use Rattle.tt_infer.specs.Reads.{BoundsRun, BoundsSending, counted_within, IsRival, TellsWait, IsOtherOf, KeepsOut, TellsApart}
use Rattle.tt_infer.specs.declared.fact.Fact.{Fact}
use Rattle.tt_infer.specs.declared.fact.Fact.TheVariants.{LateRound, Order}

-- just these facts were added to a list
pub record AddsFacts (Are : Fact → Type 0) (old new : List Fact) : Type 0 where
  pub kept : (fact : Fact) → Contains old fact → Contains new fact
  pub told : (fact : Fact) → Are fact → Contains new fact
  pub only : (fact : Fact) → Contains new fact → Contains old fact ⊎ Are fact

-- the bounds of a process, where it is of node n and runs from a to b
abbrev pub BoundsRunWithin : Instance → Known → ℕ → ℕ → ℕ → ℕ → Fact → Type 0
BoundsRunWithin i f n a b p fact = IsTrue (runs_within i f n a b p) × BoundsRun a p fact

-- the bounds of a message, where it is of node n and is sent from round a on and before b
abbrev pub BoundsSendingWithin : Instance → Known → ℕ → ℕ → ℕ → ℕ → Fact → Type 0
BoundsSendingWithin i f n a b m fact = IsTrue (sent_within i f n a b m) × BoundsSending a m fact

-- the same, where it is fixed to channel k or to both
abbrev pub BoundsCounted : Instance → Choice → Known → ℕ → ℕ → ℕ → ℕ → ℕ → Fact → Type 0
BoundsCounted i c f k n a b m fact = IsTrue (counted_within i c f k n a b m) × BoundsSending a m fact

-- what tells how long p may have to wait for x, where it may
abbrev pub TellsRivalWait : Instance → Known → ℕ → ℕ → Fact → Type 0
TellsRivalWait i f p x fact = IsRival i p x × TellsWait f p x fact

-- the first round that is too late for a message, where it is sent to p
abbrev pub TellsArrival : Instance → ℕ → ℕ → Fact → Type 0
TellsArrival i p m fact = IsSentTo i p m × (fact ≡ LateRound m)

-- what keeps message k out of the frame of round r, where it is another one of m's node
abbrev pub KeepsOtherOut : Instance → Known → ℕ → ℕ → ℕ → Fact → Type 0
KeepsOtherOut i f m r k fact = IsOtherOf i m k × KeepsOut f r k fact

-- that p goes before q, where neither a link nor a message leads from one to the other
abbrev pub OrdersPair : Instance → ℕ → ℕ → Fact → Type 0
OrdersPair i p q fact = (¬ Leads i p q) × (fact ≡ Order p q)

-- the same of a process in a list and the one behind it
abbrev pub OrdersNext : Instance → List ℕ → ℕ → Fact → Type 0
OrdersNext i ps k fact = OrdersPair i (slice_index ps k) (slice_index ps (k + 1)) fact

-- what tells that messages m and k are in no round together, where k is of m's node
abbrev pub TellsOneNodeApart : Instance → Known → ℕ → ℕ → Fact → Type 0
TellsOneNodeApart i f m k fact = (source_of i k ≡ source_of i m) × TellsApart f m k fact
