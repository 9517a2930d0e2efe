-- What a plan says, and the eleven rules that a valid plan keeps (model of Pop, Eles and Peng, CODES 1999,
-- with releases, deadlines and copy times of our own profile). All times are ticks.
use Rattle.std.specs.Prelude.{◌≡◌, ◌≢◌, ℕ, ◌+◌, ◌<◌, ◌≤◌, ◌⊎◌, ◌==◌, ◌&&◌, ◌||◌, if◌then◌else◌, Bool, IsTrue, List, length, slice_index, Contains}
use Rattle.ttp_model.specs.declared.plan.Plan.{Plan}
use Rattle.ttp_model.specs.Limits.{both_channels}
use Rattle.ttp_model.specs.Lists.{EachBelow}
use Rattle.ttp_model.specs.Totals.{total}
use Rattle.ttp_model.specs.Instance.{Instance, node_at, process_at, link_at, message_at, node_of, source_of}
use Rattle.ttp_model.specs.Slots.{slot_start, slot_end}

-- when a process starts
abbrev pub start_of : Plan → ℕ → ℕ
start_of plan p = slice_index plan.starts p

-- when it ends: it runs for its worst-case execution time, and isn't preempted
abbrev pub end_of : Instance → Plan → ℕ → ℕ
end_of i plan p = start_of plan p + (process_at i p).wcet

-- the round in which a message is sent
abbrev pub round_of : Plan → ℕ → ℕ
round_of plan m = slice_index plan.rounds m

-- the channel on which it is sent
abbrev pub channel_of : Plan → ℕ → ℕ
channel_of plan m = slice_index plan.channels m

-- when the slot that a message is sent in begins
abbrev pub sent_from : Instance → Plan → ℕ → ℕ
sent_from i plan m = slot_start i.cluster plan.order plan.caps (source_of i m) (round_of plan m)

-- and when it ends
abbrev pub sent_until : Instance → Plan → ℕ → ℕ
sent_until i plan m = slot_end i.cluster plan.order plan.caps (source_of i m) (round_of plan m)

-- the order has an entry for each node
abbrev pub HasOrderLength : Instance → Plan → Type 0
HasOrderLength i plan = length plan.order ≡ length i.nodes

-- the capacities have an entry for each node
abbrev pub HasCapacitiesLength : Instance → Plan → Type 0
HasCapacitiesLength i plan = length plan.caps ≡ length i.nodes

-- the starts have an entry for each process
abbrev pub HasStartsLength : Instance → Plan → Type 0
HasStartsLength i plan = length plan.starts ≡ length i.processes

-- the rounds have an entry for each message
abbrev pub HasRoundsLength : Instance → Plan → Type 0
HasRoundsLength i plan = length plan.rounds ≡ length i.messages

-- the channels have an entry for each message
abbrev pub HasChannelsLength : Instance → Plan → Type 0
HasChannelsLength i plan = length plan.channels ≡ length i.messages

-- all five lists are as long as the instance's
pub record HasLengths (i : Instance) (plan : Plan) : Type 0 where
  pub order : HasOrderLength i plan
  pub capacities : HasCapacitiesLength i plan
  pub starts : HasStartsLength i plan
  pub rounds : HasRoundsLength i plan
  pub channels : HasChannelsLength i plan

-- at this position of the order stands one of count nodes that doesn't stand before it
pub record IsNewNode (count : ℕ) (order : List ℕ) (k : ℕ) : Type 0 where
  pub node : slice_index order k < count
  pub first : (j : ℕ) → j < k → slice_index order j ≢ slice_index order k

-- the order has each of count nodes once
pub record IsNodeOrder (count : ℕ) (order : List ℕ) : Type 0 where
  pub all : length order ≡ count
  pub each : EachBelow count (IsNewNode count order)

-- a node's capacity is one of its options
pub record HasOwnCapacity (i : Instance) (caps : List ℕ) (n : ℕ) : Type 0 where
  pub own : Contains (node_at i n).capacities (slice_index caps n)

-- a process starts at its release or later
abbrev pub IsReleased : Instance → Plan → ℕ → Type 0
IsReleased i plan p = (process_at i p).release ≤ start_of plan p

-- it ends by its deadline and within the horizon
abbrev pub EndsInTime : Instance → Plan → ℕ → Type 0
EndsInTime i plan p = (end_of i plan p ≤ (process_at i p).deadline) × (end_of i plan p ≤ i.cluster.horizon)

-- p ends before q starts, or just then
abbrev pub EndsBefore : Instance → Plan → ℕ → ℕ → Type 0
EndsBefore i plan p q = end_of i plan p ≤ start_of plan q

-- of two processes of one node one ends before the other starts
abbrev pub AreApart : Instance → Plan → ℕ → ℕ → Type 0
AreApart i plan p q = node_of i p ≡ node_of i q → EndsBefore i plan p q ⊎ EndsBefore i plan q p

-- so it is of p and each process after it in the list
abbrev pub IsApartFromLater : Instance → Plan → ℕ → Type 0
IsApartFromLater i plan p = (q : ℕ) → p < q → q < length i.processes → AreApart i plan p q

-- a link's first process ends before its second starts
abbrev pub KeepsLink : Instance → Plan → ℕ → Type 0
KeepsLink i plan l = EndsBefore i plan (link_at i l).before (link_at i l).after

-- a message is copied out, after its sender has ended, before its slot begins
abbrev pub IsReady : Instance → Plan → ℕ → Type 0
IsReady i plan m = end_of i plan (message_at i m).sender + i.cluster.copy_out ≤ sent_from i plan m

-- a receiver starts after the slot has ended and the message was copied in
abbrev pub HasArrived : Instance → Plan → ℕ → ℕ → Type 0
HasArrived i plan m q = sent_until i plan m + i.cluster.copy_in ≤ start_of plan q

-- so it is of the receiver at this place of the message's list
abbrev pub HasArrivedAt : Instance → Plan → ℕ → ℕ → Type 0
HasArrivedAt i plan m k = HasArrived i plan m (slice_index (message_at i m).receivers k)

-- so it is of each receiver
abbrev pub HasArrivedEverywhere : Instance → Plan → ℕ → Type 0
HasArrivedEverywhere i plan m = EachBelow (length (message_at i m).receivers) (HasArrivedAt i plan m)

-- message m is in the frame of node n in round r
abbrev pub is_in_frame : Instance → Plan → ℕ → ℕ → ℕ → Bool
is_in_frame i plan n r m = source_of i m == n && round_of plan m == r

-- the bytes that message m puts into the frame of node n in round r, on whatever channel: none where it isn't sent there
abbrev pub bytes_in : Instance → Plan → ℕ → ℕ → ℕ → ℕ
bytes_in i plan n r m = if source_of i m == n && round_of plan m == r then (message_at i m).bytes else 0

-- the bytes of all messages in that frame, each once
abbrev pub load_of : Instance → Plan → ℕ → ℕ → ℕ
load_of i plan n r = total (bytes_in i plan n r) (length i.messages)

-- whether the number that stands in a plan is channel c, or says that a message is on both
abbrev pub is_on : ℕ → ℕ → Bool
is_on c number = number == c || number == both_channels

-- message m is in the frame of node n in round r on channel c
abbrev pub is_in_frame_on : Instance → Plan → ℕ → ℕ → ℕ → ℕ → Bool
is_in_frame_on i plan n r c m = is_in_frame i plan n r m && is_on c (channel_of plan m)

-- the bytes that message m puts into the frame of node n in round r on channel c: none where it isn't sent there
abbrev pub bytes_on : Instance → Plan → ℕ → ℕ → ℕ → ℕ → ℕ
bytes_on i plan n r c m = if is_on c (channel_of plan m) then bytes_in i plan n r m else 0

-- the bytes of all messages in that frame on that channel
abbrev pub load_on : Instance → Plan → ℕ → ℕ → ℕ → ℕ
load_on i plan n r c = total (bytes_on i plan n r c) (length i.messages)

-- where message m is on channel c, the messages of its frame there fit into its capacity
abbrev pub FitsOn : Instance → Plan → ℕ → ℕ → Type 0
FitsOn i plan m c = IsTrue (is_on c (channel_of plan m)) → load_on i plan (source_of i m) (round_of plan m) c ≤ slice_index plan.caps (source_of i m)

-- so it is on each channel of the cluster
abbrev pub FitsFrame : Instance → Plan → ℕ → Type 0
FitsFrame i plan m = EachBelow i.cluster.channels (FitsOn i plan m)

-- a message may be on this channel: one that is there, the only one where there is one, and both where it is to be on both
pub record MayBeOn (i : Instance) (m k : ℕ) : Type 0 where
  pub known : k ≤ both_channels
  pub alone : i.cluster.channels ≡ 1 → k ≡ 0
  pub both : IsTrue (message_at i m).both → k ≡ both_channels

-- a message is on one that it may be on
abbrev pub HasOwnChannel : Instance → Plan → ℕ → Type 0
HasOwnChannel i plan m = MayBeOn i m (channel_of plan m)

-- The eleven rules, by what each is about.
pub data Clause : Type 0 where
  Lengths : Clause
  Order : Clause
  Capacities : Clause
  Releases : Clause
  Ends : Clause
  Overlaps : Clause
  Links : Clause
  Readiness : Clause
  Arrivals : Clause
  Frames : Clause
  Channels : Clause

-- a plan keeps a rule
abbrev pub Keeps : Instance → Plan → Clause → Type 0
Keeps i plan Lengths = HasLengths i plan
Keeps i plan Order = IsNodeOrder (length i.nodes) plan.order
Keeps i plan Capacities = EachBelow (length i.nodes) (HasOwnCapacity i plan.caps)
Keeps i plan Releases = EachBelow (length i.processes) (IsReleased i plan)
Keeps i plan Ends = EachBelow (length i.processes) (EndsInTime i plan)
Keeps i plan Overlaps = EachBelow (length i.processes) (IsApartFromLater i plan)
Keeps i plan Links = EachBelow (length i.links) (KeepsLink i plan)
Keeps i plan Readiness = EachBelow (length i.messages) (IsReady i plan)
Keeps i plan Arrivals = EachBelow (length i.messages) (HasArrivedEverywhere i plan)
Keeps i plan Frames = EachBelow (length i.messages) (FitsFrame i plan)
Keeps i plan Channels = EachBelow (length i.messages) (HasOwnChannel i plan)

-- A plan is valid when it keeps all eleven.
pub record IsValid (i : Instance) (plan : Plan) : Type 0 where
  pub lengths : Keeps i plan Lengths
  pub order : Keeps i plan Order
  pub capacities : Keeps i plan Capacities
  pub released : Keeps i plan Releases
  pub in_time : Keeps i plan Ends
  pub apart : Keeps i plan Overlaps
  pub links : Keeps i plan Links
  pub ready : Keeps i plan Readiness
  pub arrived : Keeps i plan Arrivals
  pub frames : Keeps i plan Frames
  pub on_own : Keeps i plan Channels
