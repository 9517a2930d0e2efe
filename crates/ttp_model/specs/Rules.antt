-- What each part of an instance has to keep: the limits and conditions of our own profile.
use Rattle.std.specs.Prelude.{◌≡◌, ◌≢◌, ℕ, ◌+◌, ◌*◌, ◌<◌, ◌≤◌, List, length, slice_index, Bool, ◌||◌, ◌==◌, IsTrue, IsFalse, All, EachIndex}
use Rattle.std.specs.Char.{is_ascii_alphabetic, is_ascii_alphanumeric}
use Rattle.std.specs.List.Sorted.{IsStrictlyIncreasing}
use Rattle.ttp_model.specs.Limits.{most_nodes, most_processes, most_links, most_messages, most_capacities, most_name_bytes, most_ticks, most_bus_ticks, most_head, most_per_byte, most_bytes, most_channels}
use Rattle.ttp_model.specs.declared.parts.Cluster.{Cluster}
use Rattle.ttp_model.specs.declared.parts.Process.{Process}
use Rattle.ttp_model.specs.declared.error.Place.{Place}
use Rattle.ttp_model.specs.declared.error.Place.TheVariants.{AtCluster, AtNode, AtProcess, AtLink, AtMessage}
use Rattle.ttp_model.specs.Lists.{EachBelow, HasNoRepeats}
use Rattle.ttp_model.specs.Instance.{Instance, node_at, process_at, link_at, message_at, node_of, source_of}
use Rattle.ttp_model.specs.Graph.{IsAcyclic}

-- how many nodes, processes, links and messages there are
pub record KeepsLimits (i : Instance) : Type 0 where
  pub nodes_least : 1 ≤ length i.nodes
  pub nodes : length i.nodes ≤ most_nodes
  pub processes_least : 1 ≤ length i.processes
  pub processes : length i.processes ≤ most_processes
  pub links : length i.links ≤ most_links
  pub messages : length i.messages ≤ most_messages

-- a message has a receiver
abbrev pub HasReceiver : Instance → ℕ → Type 0
HasReceiver i m = 0 < length (message_at i m).receivers

-- a name begins with a letter or _
abbrev pub begins_name : ℕ → Bool
begins_name c = is_ascii_alphabetic c || (c == 95)

-- and goes on with letters, digits and _
abbrev pub continues_name : ℕ → Bool
continues_name c = is_ascii_alphanumeric c || (c == 95)

-- the bytes of a name: some, few, and each as it may be
pub record IsName (name : List ℕ) : Type 0 where
  pub some : 0 < length name
  pub short : length name ≤ most_name_bytes
  pub first : IsTrue (begins_name (slice_index name 0))
  pub others : EachIndex name (λ k. IsTrue (continues_name (slice_index name k)))

-- what stands at this place has a name, where it is to have one
abbrev pub IsNamed : Instance → Place → Type 0
IsNamed i AtCluster = Unit {0}
IsNamed i (AtNode n) = n < length i.nodes → IsName (node_at i n).name
IsNamed i (AtProcess p) = p < length i.processes → IsName (process_at i p).name
IsNamed i (AtLink l) = Unit {0}
IsNamed i (AtMessage m) = m < length i.messages → IsName (message_at i m).name

-- and no earlier one of its list has the same
abbrev pub IsNewName : Instance → Place → Type 0
IsNewName i AtCluster = Unit {0}
IsNewName i (AtNode n) = n < length i.nodes → EachBelow n (λ k. (node_at i k).name ≢ (node_at i n).name)
IsNewName i (AtProcess p) = p < length i.processes → EachBelow p (λ k. (process_at i k).name ≢ (process_at i p).name)
IsNewName i (AtLink l) = Unit {0}
IsNewName i (AtMessage m) = m < length i.messages → EachBelow m (λ k. (message_at i k).name ≢ (message_at i m).name)

-- the index of a process that is there
abbrev pub IsProcess : Instance → ℕ → Type 0
IsProcess i p = p < length i.processes

-- each index that stands at this place is that of a node or a process that is there
abbrev pub NamesWhatIsThere : Instance → Place → Type 0
NamesWhatIsThere i AtCluster = Unit {0}
NamesWhatIsThere i (AtNode n) = Unit {0}
NamesWhatIsThere i (AtProcess p) = p < length i.processes → node_of i p < length i.nodes
NamesWhatIsThere i (AtLink l) = l < length i.links → IsProcess i (link_at i l).before × IsProcess i (link_at i l).after
NamesWhatIsThere i (AtMessage m) = m < length i.messages → IsProcess i (message_at i m).sender × All (IsProcess i) (message_at i m).receivers

-- the numbers of a cluster, in ticks but for the channels
pub record IsClusterInRange (c : Cluster) : Type 0 where
  pub precision : c.precision ≤ most_bus_ticks
  pub lead : c.lead ≤ most_bus_ticks
  pub trail : c.trail ≤ most_bus_ticks
  pub head_least : 1 ≤ c.head
  pub head : c.head ≤ most_head
  pub per_byte_least : 1 ≤ c.per_byte
  pub per_byte : c.per_byte ≤ most_per_byte
  pub copy_out : c.copy_out ≤ most_bus_ticks
  pub copy_in : c.copy_in ≤ most_bus_ticks
  pub horizon_least : 1 ≤ c.horizon
  pub horizon : c.horizon ≤ most_ticks
  pub channels_least : 1 ≤ c.channels
  pub channels : c.channels ≤ most_channels

-- the numbers of a process, in ticks
pub record IsProcessInRange (p : Process) : Type 0 where
  pub wcet_least : 1 ≤ p.wcet
  pub wcet : p.wcet ≤ most_ticks
  pub release : p.release ≤ most_ticks
  pub deadline_least : 1 ≤ p.deadline
  pub deadline : p.deadline ≤ most_ticks

-- each number that stands at this place is in its range; a node's capacities are judged apart
abbrev pub IsInRange : Instance → Place → Type 0
IsInRange i AtCluster = IsClusterInRange i.cluster
IsInRange i (AtNode n) = Unit {0}
IsInRange i (AtProcess p) = p < length i.processes → IsProcessInRange (process_at i p)
IsInRange i (AtLink l) = Unit {0}
IsInRange i (AtMessage m) = m < length i.messages → (1 ≤ (message_at i m).bytes) × ((message_at i m).bytes ≤ most_bytes)

-- the capacities that a node's slot may have, in bytes: some, few, rising, and none too large
pub record IsCapacityList (capacities : List ℕ) : Type 0 where
  pub some : 1 ≤ length capacities
  pub few : length capacities ≤ most_capacities
  pub rising : IsStrictlyIncreasing capacities
  pub small : All (λ capacity. capacity ≤ most_bytes) capacities

-- a node has such a list
abbrev pub HasCapacityList : Instance → ℕ → Type 0
HasCapacityList i n = IsCapacityList (node_at i n).capacities

-- no receiver of a message is on its sender's node
abbrev pub SendsAway : Instance → ℕ → Type 0
SendsAway i m = All (λ q. node_of i q ≢ source_of i m) (message_at i m).receivers

-- a guardian's window, opened early by the precision, stays clear of the slot before, closed late by it
abbrev pub HasLead : Instance → Type 0
HasLead i = 2 * i.cluster.precision ≤ i.cluster.lead

-- and, closed late, within its own slot
abbrev pub HasTrail : Instance → Type 0
HasTrail i = i.cluster.precision ≤ i.cluster.trail

-- a process that starts at its release ends by its deadline
abbrev pub CanEndInTime : Instance → ℕ → Type 0
CanEndInTime i p = (process_at i p).release + (process_at i p).wcet ≤ (process_at i p).deadline

-- a link joins two processes of one node
pub record StaysOnNode (i : Instance) (l : ℕ) : Type 0 where
  pub two : (link_at i l).before ≢ (link_at i l).after
  pub one_node : node_of i (link_at i l).before ≡ node_of i (link_at i l).after

-- no receiver stands twice in a message
abbrev pub ReceivesOnce : Instance → ℕ → Type 0
ReceivesOnce i m = HasNoRepeats (message_at i m).receivers

-- no message is to be on both channels of one
abbrev pub HasChannels : Instance → ℕ → Type 0
HasChannels i m = i.cluster.channels ≡ 1 → IsFalse (message_at i m).both

-- The rules, by what each is about.
pub data Rule : Type 0 where
  Lengths : Rule
  Receivers : Rule
  Names : Rule
  NewNames : Rule
  Indices : Rule
  Ranges : Rule
  CapacityLists : Rule
  ReceiversAway : Rule
  Lead : Rule
  Trail : Rule
  Deadlines : Rule
  LinkEnds : Rule
  ReceiversOnce : Rule
  Cycles : Rule
  Channels : Rule

-- an instance keeps a rule
abbrev pub KeepsRule : Instance → Rule → Type 0
KeepsRule i Lengths = KeepsLimits i
KeepsRule i Receivers = EachBelow (length i.messages) (HasReceiver i)
KeepsRule i Names = (at : Place) → IsNamed i at
KeepsRule i NewNames = (at : Place) → IsNewName i at
KeepsRule i Indices = (at : Place) → NamesWhatIsThere i at
KeepsRule i Ranges = (at : Place) → IsInRange i at
KeepsRule i CapacityLists = EachBelow (length i.nodes) (HasCapacityList i)
KeepsRule i ReceiversAway = EachBelow (length i.messages) (SendsAway i)
KeepsRule i Lead = HasLead i
KeepsRule i Trail = HasTrail i
KeepsRule i Deadlines = EachBelow (length i.processes) (CanEndInTime i)
KeepsRule i LinkEnds = EachBelow (length i.links) (StaysOnNode i)
KeepsRule i ReceiversOnce = EachBelow (length i.messages) (ReceivesOnce i)
KeepsRule i Cycles = IsAcyclic i
KeepsRule i Channels = EachBelow (length i.messages) (HasChannels i)

-- A well-formed instance keeps them all.
pub record IsInstance (i : Instance) : Type 0 where
  pub limits : KeepsRule i Lengths
  pub receivers : KeepsRule i Receivers
  pub names : KeepsRule i Names
  pub new_names : KeepsRule i NewNames
  pub indices : KeepsRule i Indices
  pub ranges : KeepsRule i Ranges
  pub capacities : KeepsRule i CapacityLists
  pub away : KeepsRule i ReceiversAway
  pub lead : KeepsRule i Lead
  pub trail : KeepsRule i Trail
  pub deadlines : KeepsRule i Deadlines
  pub links : KeepsRule i LinkEnds
  pub receivers_once : KeepsRule i ReceiversOnce
  pub acyclic : KeepsRule i Cycles
  pub channels : KeepsRule i Channels
