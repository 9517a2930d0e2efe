-- What is chosen so far, and which plans agree with it: a choice stands for a set of plans.
use Rattle.std.specs.Prelude.{◌≡◌, ◌≢◌, ℕ, ◌*◌, ◌<◌, ◌≤◌, ◌⊎◌, ◌==◌, ◌&&◌, ◌||◌, not, if◌then◌else◌, List, [], length, slice_index, slice_index_or, Option, None, Some, IsSome, Bool, IsTrue, IsFalse, Contains}
use Rattle.ttp_model.specs.declared.plan.Plan.{Plan}
use Rattle.ttp_model.specs.Instance.{Instance, node_at, message_at, node_of}
use Rattle.ttp_model.specs.Lists.{HasNoRepeats}
use Rattle.ttp_model.specs.Plans.{HasLengths, IsNodeOrder, HasOwnCapacity, EndsBefore, MayBeOn, round_of, channel_of}
use Rattle.ttp_model.specs.Totals.{total}
use Rattle.tt_choice.specs.declared.reversal.Reversal.{Reversal}
use Rattle.tt_choice.specs.Precedence.{Precedence, goes_before}

-- the first nodes of the slot order; by node a fixed capacity in bytes, or none; which processes go
-- before which, and how many pairs of one node are in neither order; by message its least and its
-- greatest round, and a fixed channel, or none; and what takes the kept decisions back, the first first,
-- on which nothing that is said of plans rests
pub record Choice : Type 0 where
  pub prefix : List ℕ
  pub fixed : List (Option ℕ)
  pub before : Precedence
  pub unordered : ℕ
  pub lo : List ℕ
  pub hi : List ℕ
  pub channels : List (Option ℕ)
  pub kept : List Reversal

-- the same, and no decision is kept
abbrev pub bare : Choice → Choice
bare c = record c { kept = [] }

-- the capacity that is fixed for a node; none past the last node
abbrev pub fixed_cap : Choice → ℕ → Option ℕ
fixed_cap c n = slice_index_or c.fixed n None

-- p is chosen to go before q; never where one of them isn't there
abbrev pub is_before : Choice → ℕ → ℕ → Bool
is_before c p q = goes_before c.before p q

-- the least round that message m may be sent in; 0 past the last message
abbrev pub least_round : Choice → ℕ → ℕ
least_round c m = slice_index c.lo m

-- and the greatest
abbrev pub greatest_round : Choice → ℕ → ℕ
greatest_round c m = slice_index c.hi m

-- the channel that is fixed for a message; none past the last message
abbrev pub fixed_channel : Choice → ℕ → Option ℕ
fixed_channel c m = slice_index_or c.channels m None

-- a capacity or a channel is the one that is fixed; any one where none is
abbrev pub IsFixedTo : Option ℕ → ℕ → Type 0
IsFixedTo None number = Unit {0}
IsFixedTo (Some fixed) number = number ≡ fixed

-- an order begins with these nodes
abbrev pub BeginsWith : List ℕ → List ℕ → Type 0
BeginsWith prefix order = (k : ℕ) → k < length prefix → slice_index order k ≡ slice_index prefix k

-- an order and capacities of the instance's nodes that begin and are as chosen
pub record Agrees (i : Instance) (c : Choice) (order caps : List ℕ) : Type 0 where
  pub nodes : IsNodeOrder (length i.nodes) order
  pub prefix : BeginsWith c.prefix order
  pub caps_length : length caps ≡ length i.nodes
  pub own : (n : ℕ) → n < length i.nodes → HasOwnCapacity i caps n
  pub fixed : (n : ℕ) → n < length i.nodes → IsFixedTo (fixed_cap c n) (slice_index caps n)

-- the plan's round of the message is in its range
abbrev pub IsSentInRange : Choice → Plan → ℕ → Type 0
IsSentInRange c plan m = (least_round c m ≤ round_of plan m) × (round_of plan m ≤ greatest_round c m)

-- the plan has the instance's lengths and is as chosen; it needn't be valid
pub record IsIn (i : Instance) (c : Choice) (plan : Plan) : Type 0 where
  pub lengths : HasLengths i plan
  pub prefix : BeginsWith c.prefix plan.order
  pub fixed : (n : ℕ) → n < length i.nodes → IsFixedTo (fixed_cap c n) (slice_index plan.caps n)
  pub pairs : (p q : ℕ) → IsTrue (is_before c p q) → EndsBefore i plan p q
  pub ranges : (m : ℕ) → m < length i.messages → IsSentInRange c plan m
  pub channels : (m : ℕ) → m < length i.messages → IsFixedTo (fixed_channel c m) (channel_of plan m)

-- what is fixed for a node is one of its own capacities
abbrev pub IsOption : Instance → ℕ → Option ℕ → Type 0
IsOption i n None = Unit {0}
IsOption i n (Some fixed) = Contains (node_at i n).capacities fixed

-- what is fixed for a message is a channel that it may be on; none is of two, where it needn't be on both
abbrev pub IsChannel : Instance → ℕ → Option ℕ → Type 0
IsChannel i m None = (i.cluster.channels ≡ 2) × IsFalse (message_at i m).both
IsChannel i m (Some fixed) = MayBeOn i m fixed

-- two different processes of one node
pub record ArePair (i : Instance) (p q : ℕ) : Type 0 where
  pub first : p < length i.processes
  pub second : q < length i.processes
  pub two : p ≢ q
  pub one_node : node_of i p ≡ node_of i q

-- two processes of one node, neither of which is chosen to go before the other
abbrev pub is_unordered : Instance → Choice → ℕ → ℕ → Bool
is_unordered i c p q = (node_of i p == node_of i q) && not (is_before c p q || is_before c q p)

-- how many q below p are in neither order with p
abbrev pub unordered_below : Instance → Choice → ℕ → ℕ
unordered_below i c p = total (λ q. if is_unordered i c p q then 1 else 0) p

-- how many pairs of processes of one node are in neither order
abbrev pub unordered_pairs : Instance → Choice → ℕ
unordered_pairs i c = total (unordered_below i c) (length i.processes)

-- the choice is one of this instance: what it names is there
pub record IsChoice (i : Instance) (c : Choice) : Type 0 where
  pub few : length c.prefix ≤ length i.nodes
  pub nodes : (k : ℕ) → k < length c.prefix → slice_index c.prefix k < length i.nodes
  pub once : HasNoRepeats c.prefix
  pub fixed_length : length c.fixed ≡ length i.nodes
  pub options : (n : ℕ) → n < length i.nodes → IsOption i n (fixed_cap c n)
  pub processes : c.before.processes ≡ length i.processes
  pub tests : length c.before.tests ≡ length i.processes * length i.processes
  pub pairs : (p q : ℕ) → IsTrue (is_before c p q) → ArePair i p q
  pub unordered : c.unordered ≡ unordered_pairs i c
  pub lo_length : length c.lo ≡ length i.messages
  pub hi_length : length c.hi ≡ length i.messages
  pub ranges : (m : ℕ) → m < length i.messages → least_round c m ≤ greatest_round c m
  pub within : (m : ℕ) → m < length i.messages → greatest_round c m < i.cluster.horizon
  pub channels_length : length c.channels ≡ length i.messages
  pub channels : (m : ℕ) → m < length i.messages → IsChannel i m (fixed_channel c m)

-- two processes of one node are chosen to run one way or the other
abbrev pub IsOrdered : Instance → Choice → ℕ → ℕ → Type 0
IsOrdered i c p q = node_of i p ≡ node_of i q → IsTrue (is_before c p q) ⊎ IsTrue (is_before c q p)

-- nothing but the starts is left to choose
pub record IsComplete (i : Instance) (c : Choice) : Type 0 where
  pub placed : length c.prefix ≡ length i.nodes
  pub fixed : (n : ℕ) → n < length i.nodes → IsSome (fixed_cap c n)
  pub ordered : (p q : ℕ) → q < p → p < length i.processes → IsOrdered i c p q
  pub rounds : (m : ℕ) → m < length i.messages → least_round c m ≡ greatest_round c m
  pub channels : (m : ℕ) → m < length i.messages → IsSome (fixed_channel c m)
