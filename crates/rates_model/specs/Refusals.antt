-- Which rule a refusal names: the first that is broken, at the first place at which it is broken.
use Rattle.std.specs.Prelude.{◌≡◌, ℕ, ◌*◌, ◌<◌, ◌≤◌, ◌⊎◌, Some, length}
use Rattle.ttp_model.specs.Limits.{most_nodes, most_processes, most_links, most_messages}
use Rattle.ttp_model.specs.Lists.{EachBelow, IsFirstFailure}
use Rattle.ttp_model.specs.Refusals.{HasLength}
use Rattle.rates_model.specs.declared.error.RatesPart.{RatesPart}
use Rattle.rates_model.specs.declared.error.RatesPart.TheVariants as part
use Rattle.rates_model.specs.declared.error.RatesPlace.{RatesPlace}
use Rattle.rates_model.specs.declared.error.RatesPlace.TheVariants.{AtCluster, AtNode, AtProcess, AtLink, AtMessage, AtChain}
use Rattle.rates_model.specs.declared.error.RatesError.{RatesError}
use Rattle.rates_model.specs.declared.error.RatesError.TheVariants.{Length, NoReceiver, Through, NameForm, NameRepeated, NoSuchIndex, OutOfRange, NoRoom, NothingRead, ShortRound, LongCycle, LongRound}
use Rattle.rates_model.specs.Limits.{most_chains}
use Rattle.rates_model.specs.Rates.{Rates, chain_at}
use Rattle.rates_model.specs.Cycles.{cycle, round_of}
use Rattle.rates_model.specs.Rules.{RatesRule, Lengths, Receivers, Throughs, Names, NewNames, Indices, Ranges, Rooms, Chains, Slots, Cycles, Rounds, KeepsRatesRule, HasSomeReceiver, IsOfFewProcesses, HasName, HasNewName, HasIndices, HasRanges, HasRoom, ReadsAt, IsChain}

-- the order in which the rules are judged
abbrev pub rates_rule_number : RatesRule → ℕ
rates_rule_number Lengths = 1
rates_rule_number Receivers = 2
rates_rule_number Throughs = 3
rates_rule_number Names = 4
rates_rule_number NewNames = 5
rates_rule_number Indices = 6
rates_rule_number Ranges = 7
rates_rule_number Rooms = 8
rates_rule_number Chains = 9
rates_rule_number Slots = 10
rates_rule_number Cycles = 11
rates_rule_number Rounds = 12

-- every rule of a lesser number is kept
pub record KeepsRatesRulesBefore (rho : Rates) (rule : RatesRule) : Type 0 where
  pub each : (earlier : RatesRule) → rates_rule_number earlier < rates_rule_number rule → KeepsRatesRule rho earlier

-- Places stand in this order: the cluster, the nodes, the processes, the links, the messages, the chains.
abbrev pub rates_list_number : RatesPlace → ℕ
rates_list_number AtCluster = 0
rates_list_number (AtNode n) = 1
rates_list_number (AtProcess p) = 2
rates_list_number (AtLink l) = 3
rates_list_number (AtMessage m) = 4
rates_list_number (AtChain c) = 5

-- the index of a place in its list
abbrev pub rates_index_of : RatesPlace → ℕ
rates_index_of AtCluster = 0
rates_index_of (AtNode n) = n
rates_index_of (AtProcess p) = p
rates_index_of (AtLink l) = l
rates_index_of (AtMessage m) = m
rates_index_of (AtChain c) = c

-- an earlier list, or an earlier place of the same list
abbrev pub IsEarlierPlace : RatesPlace → RatesPlace → Type 0
IsEarlierPlace a b = (rates_list_number a < rates_list_number b) ⊎ ((rates_list_number a ≡ rates_list_number b) × (rates_index_of a < rates_index_of b))

-- this is the first place at which P fails
pub record FailsFirstAt (P : RatesPlace → Type 0) (at : RatesPlace) : Type 0 where
  pub fails : ¬ P at
  pub holds_before : (earlier : RatesPlace) → IsEarlierPlace earlier at → P earlier

-- this list has a wrong length, and those before it have right ones
abbrev pub IsFirstWrongPart : Rates → RatesPart → Type 0
IsFirstWrongPart rho part.Nodes = ¬ HasLength 1 most_nodes rho.nodes
IsFirstWrongPart rho part.Processes = HasLength 1 most_nodes rho.nodes × ¬ HasLength 1 most_processes rho.processes
IsFirstWrongPart rho part.Links = HasLength 1 most_nodes rho.nodes × HasLength 1 most_processes rho.processes × ¬ HasLength 0 most_links rho.links
IsFirstWrongPart rho part.Messages = HasLength 1 most_nodes rho.nodes × HasLength 1 most_processes rho.processes × HasLength 0 most_links rho.links × ¬ HasLength 0 most_messages rho.messages
IsFirstWrongPart rho part.Chains =
    HasLength 1 most_nodes rho.nodes × HasLength 1 most_processes rho.processes × HasLength 0 most_links rho.links × HasLength 0 most_messages rho.messages
    × ¬ HasLength 0 most_chains rho.chains

-- the first chain with a process that reads nothing of the one before it, and its first such place
pub record IsFirstUnread (rho : Rates) (c place : ℕ) : Type 0 where
  pub within : c < length rho.chains
  pub behind : 1 ≤ place
  pub there : place < length (chain_at rho c).through
  pub unread : ¬ ReadsAt rho c place
  pub read_before : (k : ℕ) → 1 ≤ k → k < place → ReadsAt rho c k
  pub before : EachBelow c (IsChain rho)

-- every rule before this one is kept, and here is its first failure
abbrev pub BreaksRatesRule : Rates → RatesRule → Type 0 → Type 0
BreaksRatesRule rho rule Failure = KeepsRatesRulesBefore rho rule × Failure

-- The slots take longer than the round that is asked for, and these are both. Nothing is left of it then, and its ticks are those of the text.
pub record IsShortRound (rho : Rates) (slots round : ℕ) : Type 0 where
  pub asked : rho.cluster.round ≡ Some round
  pub slots_are : slots ≡ round_of rho
  pub longer : rho.cluster.finer * round < slots

-- the round is longer than the cycle, and these are both
pub record IsLongRound (rho : Rates) (round cycle_ticks : ℕ) : Type 0 where
  pub round_is : round ≡ round_of rho
  pub cycle_is : cycle_ticks ≡ cycle rho
  pub longer : cycle_ticks < round

-- the refusal that a cluster of several rates earns, rule by rule
abbrev pub IsRatesRefusal : Rates → RatesError → Type 0
IsRatesRefusal rho (Length list) = BreaksRatesRule rho Lengths (IsFirstWrongPart rho list)
IsRatesRefusal rho (NoReceiver m) = BreaksRatesRule rho Receivers (IsFirstFailure (length rho.messages) (HasSomeReceiver rho) m)
IsRatesRefusal rho (Through c) = BreaksRatesRule rho Throughs (IsFirstFailure (length rho.chains) (IsOfFewProcesses rho) c)
IsRatesRefusal rho (NameForm at) = BreaksRatesRule rho Names (FailsFirstAt (HasName rho) at)
IsRatesRefusal rho (NameRepeated at) = BreaksRatesRule rho NewNames (FailsFirstAt (HasNewName rho) at)
IsRatesRefusal rho (NoSuchIndex at) = BreaksRatesRule rho Indices (FailsFirstAt (HasIndices rho) at)
IsRatesRefusal rho (OutOfRange at) = BreaksRatesRule rho Ranges (FailsFirstAt (HasRanges rho) at)
IsRatesRefusal rho (NoRoom p) = BreaksRatesRule rho Rooms (IsFirstFailure (length rho.processes) (HasRoom rho) p)
IsRatesRefusal rho (NothingRead c place) = BreaksRatesRule rho Chains (IsFirstUnread rho c place)
IsRatesRefusal rho (ShortRound slots round) = BreaksRatesRule rho Slots (IsShortRound rho slots round)
IsRatesRefusal rho LongCycle = BreaksRatesRule rho Cycles (¬ KeepsRatesRule rho Cycles)
IsRatesRefusal rho (LongRound round cycle_ticks) = BreaksRatesRule rho Rounds (IsLongRound rho round cycle_ticks)
