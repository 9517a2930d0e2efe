-- What each part of a cluster of several rates has to keep by itself. The rules of an instance are judged of the one that is
-- made of it.
use Rattle.std.specs.Prelude.{◌≢◌, ℕ, ◌+◌, ◌-◌, ◌*◌, ◌<◌, ◌≤◌, length, slice_index, ◌||◌, IsTrue, IfSome, All}
use Rattle.ttp_model.specs.Limits.{most_nodes, most_processes, most_links, most_messages, most_ticks}
use Rattle.ttp_model.specs.Lists.{EachBelow}
use Rattle.ttp_model.specs.Rules.{IsName}
use Rattle.rates_model.specs.declared.error.RatesPlace.{RatesPlace}
use Rattle.rates_model.specs.declared.error.RatesPlace.TheVariants.{AtCluster, AtNode, AtProcess, AtLink, AtMessage, AtChain}
use Rattle.rates_model.specs.Limits.{most_chains, least_through, most_through, most_delay}
use Rattle.rates_model.specs.Rates.{Rates, node_at, process_at, link_at, message_at, chain_at, node_of}
use Rattle.rates_model.specs.Cycles.{cycle, round_of}
use Rattle.rates_model.specs.Reads.{leads}

-- how many nodes, processes, links, messages and chains there are
pub record KeepsRatesLimits (rho : Rates) : Type 0 where
  pub nodes_least : 1 ≤ length rho.nodes
  pub nodes : length rho.nodes ≤ most_nodes
  pub processes_least : 1 ≤ length rho.processes
  pub processes : length rho.processes ≤ most_processes
  pub links : length rho.links ≤ most_links
  pub messages : length rho.messages ≤ most_messages
  pub chains : length rho.chains ≤ most_chains

-- a message has a receiver
abbrev pub HasSomeReceiver : Rates → ℕ → Type 0
HasSomeReceiver rho m = 0 < length (message_at rho m).receivers

-- how many processes a chain leads through
pub record IsOfFewProcesses (rho : Rates) (c : ℕ) : Type 0 where
  pub least : least_through ≤ length (chain_at rho c).through
  pub most : length (chain_at rho c).through ≤ most_through

-- what stands at this place has a name, where it is to have one
abbrev pub HasName : Rates → RatesPlace → Type 0
HasName rho AtCluster = Unit {0}
HasName rho (AtNode n) = n < length rho.nodes → IsName (node_at rho n).name
HasName rho (AtProcess p) = p < length rho.processes → IsName (process_at rho p).name
HasName rho (AtLink l) = Unit {0}
HasName rho (AtMessage m) = m < length rho.messages → IsName (message_at rho m).name
HasName rho (AtChain c) = c < length rho.chains → IsName (chain_at rho c).name

-- and no earlier one of its list has the same
abbrev pub HasNewName : Rates → RatesPlace → Type 0
HasNewName rho AtCluster = Unit {0}
HasNewName rho (AtNode n) = n < length rho.nodes → EachBelow n (λ k. (node_at rho k).name ≢ (node_at rho n).name)
HasNewName rho (AtProcess p) = p < length rho.processes → EachBelow p (λ k. (process_at rho k).name ≢ (process_at rho p).name)
HasNewName rho (AtLink l) = Unit {0}
HasNewName rho (AtMessage m) = m < length rho.messages → EachBelow m (λ k. (message_at rho k).name ≢ (message_at rho m).name)
HasNewName rho (AtChain c) = c < length rho.chains → EachBelow c (λ k. (chain_at rho k).name ≢ (chain_at rho c).name)

-- the index of a process that is there
abbrev pub IsRatesProcess : Rates → ℕ → Type 0
IsRatesProcess rho p = p < length rho.processes

-- each index that stands at this place is that of a node or a process that is there
abbrev pub HasIndices : Rates → RatesPlace → Type 0
HasIndices rho AtCluster = Unit {0}
HasIndices rho (AtNode n) = Unit {0}
HasIndices rho (AtProcess p) = p < length rho.processes → node_of rho p < length rho.nodes
HasIndices rho (AtLink l) = l < length rho.links → IsRatesProcess rho (link_at rho l).before × IsRatesProcess rho (link_at rho l).after
HasIndices rho (AtMessage m) = m < length rho.messages → IsRatesProcess rho (message_at rho m).sender × All (IsRatesProcess rho) (message_at rho m).receivers
HasIndices rho (AtChain c) = c < length rho.chains → All (IsRatesProcess rho) (chain_at rho c).through

-- from 1 on, and not too many ticks
abbrev pub AreTicks : ℕ → Type 0
AreTicks ticks = (1 ≤ ticks) × (ticks ≤ most_ticks)

-- The numbers that an instance has none of are in their ranges: what storing takes, the round that is asked for, a period, a delay, an age.
abbrev pub HasRanges : Rates → RatesPlace → Type 0
HasRanges rho AtCluster = AreTicks rho.cluster.store × IfSome rho.cluster.round AreTicks
HasRanges rho (AtNode n) = Unit {0}
HasRanges rho (AtProcess p) = p < length rho.processes → AreTicks (process_at rho p).period
HasRanges rho (AtLink l) = l < length rho.links → (link_at rho l).delay ≤ most_delay
HasRanges rho (AtMessage m) = m < length rho.messages → (message_at rho m).delay ≤ most_delay
HasRanges rho (AtChain c) = c < length rho.chains → AreTicks (chain_at rho c).age

-- a process that starts at its release ends by its deadline, which is within its period
pub record HasRoom (rho : Rates) (p : ℕ) : Type 0 where
  pub ends : (process_at rho p).release + (process_at rho p).wcet ≤ (process_at rho p).deadline
  pub within : (process_at rho p).deadline ≤ (process_at rho p).period

-- q reads something of p
abbrev pub ReadsOf : Rates → ℕ → ℕ → Type 0
ReadsOf rho p q = IsTrue (leads rho p q 0 || leads rho p q 1)

-- the process at this place of a chain reads something of the one before it
abbrev pub ReadsAt : Rates → ℕ → ℕ → Type 0
ReadsAt rho c k = ReadsOf rho (slice_index (chain_at rho c).through (k - 1)) (slice_index (chain_at rho c).through k)

-- and so does each behind the first
abbrev pub IsChain : Rates → ℕ → Type 0
IsChain rho c = (k : ℕ) → 1 ≤ k → k < length (chain_at rho c).through → ReadsAt rho c k

-- the slots take no more than the round that is asked for
abbrev pub HasSlotsWithin : Rates → Type 0
HasSlotsWithin rho = IfSome rho.cluster.round (λ round. round_of rho ≤ rho.cluster.finer * round)

-- the rules, in their order: how many parts there are, that messages have receivers, how long chains are, names, new names, indices, ranges, room in a
-- period, what chains read, whether the slots are within the round that is asked for, the cycle, and whether a round is within that
pub data RatesRule : Type 0 where
  Lengths : RatesRule
  Receivers : RatesRule
  Throughs : RatesRule
  Names : RatesRule
  NewNames : RatesRule
  Indices : RatesRule
  Ranges : RatesRule
  Rooms : RatesRule
  Chains : RatesRule
  Slots : RatesRule
  Cycles : RatesRule
  Rounds : RatesRule

-- a cluster of several rates keeps a rule
abbrev pub KeepsRatesRule : Rates → RatesRule → Type 0
KeepsRatesRule rho Lengths = KeepsRatesLimits rho
KeepsRatesRule rho Receivers = EachBelow (length rho.messages) (HasSomeReceiver rho)
KeepsRatesRule rho Throughs = EachBelow (length rho.chains) (IsOfFewProcesses rho)
KeepsRatesRule rho Names = (at : RatesPlace) → HasName rho at
KeepsRatesRule rho NewNames = (at : RatesPlace) → HasNewName rho at
KeepsRatesRule rho Indices = (at : RatesPlace) → HasIndices rho at
KeepsRatesRule rho Ranges = (at : RatesPlace) → HasRanges rho at
KeepsRatesRule rho Rooms = EachBelow (length rho.processes) (HasRoom rho)
KeepsRatesRule rho Chains = EachBelow (length rho.chains) (IsChain rho)
KeepsRatesRule rho Slots = HasSlotsWithin rho
KeepsRatesRule rho Cycles = cycle rho ≤ most_ticks
KeepsRatesRule rho Rounds = round_of rho ≤ cycle rho

-- One that is well formed keeps them all.
pub record IsRates (rho : Rates) : Type 0 where
  pub limits : KeepsRatesRule rho Lengths
  pub receivers : KeepsRatesRule rho Receivers
  pub throughs : KeepsRatesRule rho Throughs
  pub names : KeepsRatesRule rho Names
  pub new_names : KeepsRatesRule rho NewNames
  pub indices : KeepsRatesRule rho Indices
  pub ranges : KeepsRatesRule rho Ranges
  pub rooms : KeepsRatesRule rho Rooms
  pub chains : KeepsRatesRule rho Chains
  pub slots : KeepsRatesRule rho Slots
  pub cycles : KeepsRatesRule rho Cycles
  pub rounds : KeepsRatesRule rho Rounds
