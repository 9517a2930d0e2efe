-- What the steps of a leaf use of the decisions that lead to it: what they read of the choice, and none of them wrote before. Only private
-- contracts ask for it. Own profile.
use Rattle.std.specs.Prelude.{◌≡◌, ℕ, ◌+◌, ◌-◌, ◌*◌, ◌<◌, ◌≤◌, ◌==◌, nat_lt, nat_le, ◌⊎◌, ◌↔◌, List, [], ◌∷◌, length, map, slice_index, Option, None, Some, Bool, false, All, IsTrue}
use Rattle.ttp_model.specs.declared.step.Step.{Step}
use Rattle.ttp_model.specs.Instance.{Instance, source_of}
use Rattle.ttp_model.specs.Graph.{HasLink, Leads}
use Rattle.ttp_model.specs.Limits.{both_channels}
use Rattle.ttp_model.specs.Plans.{is_on}
use Rattle.ttp_model.specs.Rules.{IsInstance}
use Rattle.tt_choice.specs.declared.decision.Decision.{Decision}
use Rattle.tt_choice.specs.Choice.{Choice, least_round, greatest_round}
use Rattle.tt_choice.specs.Branches.{root_choice}
use Rattle.tt_choice.specs.Decisions.{AreOpenDecisions, chosen}
use Rattle.tt_choice.specs.Extremes.{place_of}
use Rattle.tt_choice.specs.Kept.{sets_least, sets_greatest, sets_order, fixes_above, fixes_below, fixes_channel}
use Rattle.sought_plans.specs.Known.{Known, lo_of, top_of, first_facts}
use Rattle.sought_plans.specs.Premises.{counts_on}
use Rattle.tt_infer.specs.Table.{rule}
use Rattle.tt_infer.specs.Reads.{AgreeOn, HasItsPlace, IsFactOf, IsLimitOf, IsSourceThere, ReadsFact, ReadsLimit, KeepsOut, TellsApart}
use Rattle.tt_infer.specs.Sources.{Source}
use Rattle.tt_infer.specs.Shared.{IsWritten}
use Rattle.tt_infer.specs.declared.fact.Fact.{Fact}
use Rattle.tt_infer.specs.declared.fact.Fact.TheVariants.{Start, End, FirstRound, LateRound, Order, Closed}
use Rattle.tt_infer.specs.declared.limit.Limit.{Limit}
use Rattle.tt_infer.specs.declared.limit.Limit.TheVariants.{Goal, LeastSlot, GreatestSlot, LeastFrame, GreatestFrame, Place, Copies, Counted}
use Rattle.used_decisions.specs.declared.turn.Turn.{Turn}
use Rattle.used_decisions.specs.Turns.{Path, last_of, round_of, channel_of, placed_of, nodes_of}
use Rattle.used_decisions.specs.Marks.{IsTold}
use Rattle.used_decisions.specs.declared.given.Given.{Given}
use Rattle.used_decisions.specs.declared.uses.Uses.{Uses}
use Rattle.used_decisions.specs.Given.{gives_least, gives_greatest, gives_before}

-- the decisions of a path, and what they make of the choice in which nothing is chosen
abbrev pub decisions_of : List Turn → List Decision
decisions_of turns = map (λ turn. turn.decision) turns

abbrev pub choice_of : Path → Choice
choice_of path = chosen path.instance (decisions_of path.turns)

-- the decisions of a path are open one after another, and there is room for the level of each
pub record IsReadOf (path : Path) (uses : Uses) : Type 0 where
  pub rules : IsInstance path.instance
  pub are_open : AreOpenDecisions path.instance (root_choice path.instance) (decisions_of path.turns)
  pub room : All (λ turn. turn.level < length uses.levels) path.turns

-- the level of the decision is marked, if there is one, that says at first how far a fact is known; or a step gave the fact before
abbrev pub TellsFact : Path → Given → Uses → Fact → Type 0
TellsFact path given uses (Start p) = Unit {0}
TellsFact path given uses (End p) = Unit {0}
TellsFact path given uses (FirstRound m) = IsTrue (gives_least given m) ⊎ IsTold uses.levels (last_of (sets_least m) path.turns)
TellsFact path given uses (LateRound m) = IsTrue (gives_greatest given m) ⊎ IsTold uses.levels (last_of (sets_greatest m) path.turns)
TellsFact path given uses (Order p q) = IsTrue (gives_before given p q) ⊎ IsTold uses.levels (last_of (sets_order p q) path.turns)
TellsFact path given uses Closed = Unit {0}

-- the slot order, as far as a path decides it
abbrev pub order_of : Path → List ℕ
order_of path = nodes_of (placed_of path.turns)

-- the places are marked in front of a node, or all, and the capacities above the least option
pub record TellsLeastSlot (path : Path) (uses : Uses) (n : ℕ) : Type 0 where
  pub node : n < length path.instance.nodes
  pub frames : IsTrue uses.above_least
  pub front : place_of n (order_of path) ≤ uses.places

-- the places up to a node that is placed, and the capacities below the greatest option
pub record TellsGreatestSlot (path : Path) (uses : Uses) (n : ℕ) : Type 0 where
  pub node : n < length path.instance.nodes
  pub frames : IsTrue uses.below_most
  pub up_to : place_of n (order_of path) < length (order_of path) → place_of n (order_of path) < uses.places

-- what a limit rests on is marked
abbrev pub TellsLimit : Path → Uses → Limit → Type 0
TellsLimit path uses Goal = Unit {0}
TellsLimit path uses (LeastSlot n) = TellsLeastSlot path uses n
TellsLimit path uses (GreatestSlot n) = TellsGreatestSlot path uses n
TellsLimit path uses (LeastFrame n) = IsTold uses.levels (last_of (fixes_above n) path.turns)
TellsLimit path uses (GreatestFrame n) = IsTold uses.levels (last_of (fixes_below path.instance n) path.turns)
TellsLimit path uses (Place v) = (place_of v (order_of path) < length (order_of path)) × (place_of v (order_of path) < uses.places)
TellsLimit path uses (Copies m) = IsTold uses.levels (last_of (fixes_channel (λ k. k == both_channels) m) path.turns)
TellsLimit path uses (Counted m k) = IsTold uses.levels (last_of (fixes_channel (is_on k) m) path.turns)

-- what is known of rounds is what the choice says, but where a step gave more
pub record AreRoundsKnown (path : Path) (given : Given) (f : Known) : Type 0 where
  pub least : (m : ℕ) → m < length path.instance.messages → IsTrue (gives_least given m) ⊎ (lo_of f m ≡ least_round (choice_of path) m)
  pub greatest : (m : ℕ) → m < length path.instance.messages → IsTrue (gives_greatest given m) ⊎ (top_of f m ≡ greatest_round (choice_of path) m + 1)

-- all is marked that a source uses, whatever is known
pub record IsSourceRead (path : Path) (given : Given) (uses : Uses) (source : Source) : Type 0 where
  pub facts : (f : Known) → AreRoundsKnown path given f → IsSourceThere path.instance source
      → (fact : Fact) → IsFactOf path.instance (choice_of path) f source fact → TellsFact path given uses fact
  pub limits : (f : Known) → AreRoundsKnown path given f → IsSourceThere path.instance source → HasItsPlace (choice_of path) source
      → (limit : Limit) → IsLimitOf path.instance (choice_of path) f source limit → TellsLimit path uses limit

-- all is marked that a step uses, whatever is known before it
pub record IsStepRead (path : Path) (given : Given) (uses : Uses) (step : Step) : Type 0 where
  pub facts : (goal : ℕ) (f : Known) → AreRoundsKnown path given f → (rule path.instance (choice_of path) goal f step).there
      → (fact : Fact) → ReadsFact path.instance (choice_of path) f step fact → TellsFact path given uses fact
  pub limits : (goal : ℕ) (f : Known) → AreRoundsKnown path given f → (rule path.instance (choice_of path) goal f step).there
      → (rule path.instance (choice_of path) goal f step).premise
      → (limit : Limit) → ReadsLimit path.instance (choice_of path) f step limit → TellsLimit path uses limit

-- what is given has a flag for each message and each two processes
pub record HasFlags (i : Instance) (given : Given) : Type 0 where
  pub processes : given.processes ≡ length i.processes
  pub least : length given.least ≡ length i.messages
  pub greatest : length given.greatest ≡ length i.messages
  pub before : length given.before ≡ length i.processes * length i.processes

-- just what these steps wrote was given of rounds and orders
pub record IsGivenBy (i : Instance) (given : Given) (before : List Step) : Type 0 where
  pub flags : HasFlags i given
  pub least : (m : ℕ) → m < length i.messages → IsTrue (gives_least given m) ↔ IsWritten i before (FirstRound m)
  pub greatest : (m : ℕ) → m < length i.messages → IsTrue (gives_greatest given m) ↔ IsWritten i before (LateRound m)
  pub order : (p q : ℕ) → p < length i.processes → q < length i.processes → IsTrue (gives_before given p q) ↔ IsWritten i before (Order p q)

-- how far each fact is known was known at first, or one of these steps wrote it
abbrev pub IsBehind : Path → List Step → Known → Type 0
IsBehind path before f =
    (fact : Fact) → AgreeOn (first_facts path.instance (choice_of path)) f fact ⊎ IsWritten path.instance before fact

-- the level of the decision is marked, if there is one, that says at first how far a fact is known
abbrev pub SaysFact : Path → Uses → Fact → Type 0
SaysFact path uses (Start p) = Unit {0}
SaysFact path uses (End p) = Unit {0}
SaysFact path uses (FirstRound m) = IsTold uses.levels (last_of (sets_least m) path.turns)
SaysFact path uses (LateRound m) = IsTold uses.levels (last_of (sets_greatest m) path.turns)
SaysFact path uses (Order p q) = IsTold uses.levels (last_of (sets_order p q) path.turns)
SaysFact path uses Closed = Unit {0}

-- behind others a step uses only what is marked, whatever is known there
pub record IsStepTold (path : Path) (uses : Uses) (before : List Step) (step : Step) : Type 0 where
  pub facts : (goal : ℕ) (f : Known) → IsBehind path before f → (rule path.instance (choice_of path) goal f step).there
      → (fact : Fact) → ReadsFact path.instance (choice_of path) f step fact → SaysFact path uses fact ⊎ IsWritten path.instance before fact
  pub limits : (goal : ℕ) (f : Known) → IsBehind path before f → (rule path.instance (choice_of path) goal f step).there
      → (rule path.instance (choice_of path) goal f step).premise
      → (limit : Limit) → ReadsLimit path.instance (choice_of path) f step limit → TellsLimit path uses limit

-- so do steps one after another
abbrev pub AreStepsTold : Path → Uses → List Step → List Step → Type 0
AreStepsTold path uses before [] = Unit {0}
AreStepsTold path uses before (step ∷ steps) = IsStepTold path uses before step × AreStepsTold path uses (step ∷ before) steps

-- steps one after another behind others, the last first
abbrev pub behind : List Step → List Step → List Step
behind before [] = before
behind before (step ∷ steps) = behind (step ∷ before) steps

-- The parts of a step that goes over messages, processes or pairs follow.

-- the last decision sets a round below r, from r on, or behind r
abbrev pub is_below : ℕ → Option Turn → Bool
is_below r None = false
is_below r (Some turn) = nat_lt (round_of turn.decision) r

abbrev pub is_from : ℕ → Option Turn → Bool
is_from r None = false
is_from r (Some turn) = nat_le r (round_of turn.decision)

abbrev pub is_behind : ℕ → Option Turn → Bool
is_behind r None = false
is_behind r (Some turn) = nat_lt r (round_of turn.decision)

-- the round that it sets, or the one before
abbrev pub round_said : ℕ → Option Turn → ℕ
round_said before None = before
round_said before (Some turn) = round_of turn.decision

-- it fixes a channel that passes a test
abbrev pub fixes_so : (ℕ → Bool) → Option Turn → Bool
fixes_so test None = false
fixes_so test (Some turn) = test (channel_of turn.decision)

-- a message is known to be sent from round a on and before b
pub record IsSentWithin (f : Known) (a b m : ℕ) : Type 0 where
  pub from : a ≤ lo_of f m
  pub before : top_of f m ≤ b

-- the rounds are marked of a message that counts from round a on
pub record TellsSending (path : Path) (given : Given) (uses : Uses) (a m : ℕ) : Type 0 where
  pub late : TellsFact path given uses (LateRound m)
  pub first : 1 ≤ a → TellsFact path given uses (FirstRound m)

-- what is used of a message where it is known to be sent in some rounds: its rounds, and that it is on both channels
pub record TellsFrame (path : Path) (given : Given) (uses : Uses) (a b m : ℕ) : Type 0 where
  pub sending : (f : Known) → AreRoundsKnown path given f → IsSentWithin f a b m → TellsSending path given uses a m
  pub twice : (f : Known) → AreRoundsKnown path given f → IsSentWithin f a b m → TellsLimit path uses (Copies m)

-- the same where it is on channel k
pub record TellsHalf (path : Path) (given : Given) (uses : Uses) (k a b m : ℕ) : Type 0 where
  pub sending : (f : Known) → AreRoundsKnown path given f → IsTrue (counts_on (choice_of path) k m) → IsSentWithin f a b m
      → TellsSending path given uses a m
  pub counted : (f : Known) → AreRoundsKnown path given f → IsTrue (counts_on (choice_of path) k m) → IsSentWithin f a b m
      → TellsLimit path uses (Counted m k)

-- what keeps message k out of the frame of round r is marked
abbrev pub TellsKeptOut : Path → Given → Uses → ℕ → ℕ → Type 0
TellsKeptOut path given uses r k =
    (f : Known) → AreRoundsKnown path given f → (fact : Fact) → KeepsOut f r k fact → TellsFact path given uses fact

-- what tells that messages m and k are in no round together
abbrev pub TellsRoundsApart : Path → Given → Uses → ℕ → ℕ → Type 0
TellsRoundsApart path given uses m k =
    (f : Known) → AreRoundsKnown path given f → (fact : Fact) → TellsApart f m k fact → TellsFact path given uses fact

-- that, or that k is on both channels
pub record TellsAside (path : Path) (given : Given) (uses : Uses) (m k : ℕ) : Type 0 where
  pub twice : TellsLimit path uses (Copies k)
  pub apart : TellsRoundsApart path given uses m k

-- what a message to a process tells of its arrival
pub record TellsArrival (path : Path) (given : Given) (uses : Uses) (m : ℕ) : Type 0 where
  pub slot : TellsLimit path uses (GreatestSlot (source_of path.instance m))
  pub late : TellsFact path given uses (LateRound m)

-- that a process goes before another is marked, where nothing leads from one to the other
abbrev pub TellsPair : Path → Given → Uses → ℕ → ℕ → Type 0
TellsPair path given uses p q =
    p < length path.instance.processes → q < length path.instance.processes → ¬ Leads path.instance p q → TellsFact path given uses (Order p q)

-- the same, where no link does
abbrev pub TellsRival : Path → Given → Uses → ℕ → ℕ → Type 0
TellsRival path given uses p x =
    p < length path.instance.processes → x < length path.instance.processes → ¬ HasLink path.instance p x → TellsFact path given uses (Order p x)

-- of the things of a list all is marked
abbrev pub TellsEach : (Uses → ℕ → Type 0) → List ℕ → Uses → Type 0
TellsEach Tells list uses = (k : ℕ) → k < length list → Tells uses (slice_index list k)

-- each process of a ring goes before the next, and the last before the first
pub record TellsRing (path : Path) (given : Given) (uses : Uses) (ring : List ℕ) : Type 0 where
  pub next : (k : ℕ) → k + 1 < length ring → TellsPair path given uses (slice_index ring k) (slice_index ring (k + 1))
  pub around : TellsPair path given uses (slice_index ring (length ring - 1)) (slice_index ring 0)
