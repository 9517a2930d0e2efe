-- Which rule a refusal names: the first that is broken, at the first place at which it is broken.
use Rattle.std.specs.Prelude.{◌≡◌, ℕ, ◌<◌, ◌≤◌, ◌⊎◌, List, length}
use Rattle.ttp_model.specs.Limits.{most_nodes, most_processes, most_links, most_messages}
use Rattle.ttp_model.specs.declared.error.Part.{Part}
use Rattle.ttp_model.specs.declared.error.Part.TheVariants as part
use Rattle.ttp_model.specs.declared.error.Place.{Place}
use Rattle.ttp_model.specs.declared.error.Place.TheVariants.{AtCluster, AtNode, AtProcess, AtLink, AtMessage}
use Rattle.ttp_model.specs.declared.error.ModelError.{ModelError}
use Rattle.ttp_model.specs.declared.error.ModelError.TheVariants.{Length, NoReceiver, NameForm, NameRepeated, NoSuchIndex, OutOfRange, Capacities, ReceiverOnSender, ShortLead, ShortTrail, Deadline, LinkAcross, ReceiverTwice, Cycle, BothOfOne, OutOfMemory}
use Rattle.ttp_model.specs.Lists.{IsFirstFailure}
use Rattle.ttp_model.specs.Instance.{Instance}
use Rattle.ttp_model.specs.Graph.{IsCycle}
use Rattle.ttp_model.specs.Rules.{Rule, Lengths, Receivers, Names, NewNames, Indices, Ranges, CapacityLists, ReceiversAway, Lead, Trail, Deadlines, LinkEnds, ReceiversOnce, Cycles, Channels, KeepsRule, HasReceiver, IsNamed, IsNewName, NamesWhatIsThere, IsInRange, HasCapacityList, SendsAway, HasLead, HasTrail, CanEndInTime, StaysOnNode, ReceivesOnce, HasChannels}

-- the order in which the rules are judged
abbrev pub rule_number : Rule → ℕ
rule_number Lengths = 1
rule_number Receivers = 2
rule_number Names = 3
rule_number NewNames = 4
rule_number Indices = 5
rule_number Ranges = 6
rule_number CapacityLists = 7
rule_number ReceiversAway = 8
rule_number Lead = 9
rule_number Trail = 10
rule_number Deadlines = 11
rule_number LinkEnds = 12
rule_number ReceiversOnce = 13
rule_number Cycles = 14
rule_number Channels = 15

-- every rule of a lesser number is kept
pub record KeepsRulesBefore (i : Instance) (rule : Rule) : Type 0 where
  pub each : (earlier : Rule) → rule_number earlier < rule_number rule → KeepsRule i earlier

-- Places stand in this order: the cluster, the nodes, the processes, the links, the messages.
abbrev pub list_number : Place → ℕ
list_number AtCluster = 0
list_number (AtNode n) = 1
list_number (AtProcess p) = 2
list_number (AtLink l) = 3
list_number (AtMessage m) = 4

-- the index of a place in its list
abbrev pub index_of : Place → ℕ
index_of AtCluster = 0
index_of (AtNode n) = n
index_of (AtProcess p) = p
index_of (AtLink l) = l
index_of (AtMessage m) = m

-- an earlier list, or an earlier place of the same list
abbrev pub IsEarlier : Place → Place → Type 0
IsEarlier a b = (list_number a < list_number b) ⊎ ((list_number a ≡ list_number b) × (index_of a < index_of b))

-- this is the first place at which P fails
pub record FailsFirst (P : Place → Type 0) (at : Place) : Type 0 where
  pub fails : ¬ P at
  pub holds_before : (earlier : Place) → IsEarlier earlier at → P earlier

-- the list is neither too short nor too long
abbrev pub HasLength : {X : Type 0} → ℕ → ℕ → List X → Type 0
HasLength least most xs = (least ≤ length xs) × (length xs ≤ most)

-- this list has a wrong length, and those before it have right ones
abbrev pub IsFirstWrongLength : Instance → Part → Type 0
IsFirstWrongLength i part.Nodes = ¬ HasLength 1 most_nodes i.nodes
IsFirstWrongLength i part.Processes = HasLength 1 most_nodes i.nodes × ¬ HasLength 1 most_processes i.processes
IsFirstWrongLength i part.Links = HasLength 1 most_nodes i.nodes × HasLength 1 most_processes i.processes × ¬ HasLength 0 most_links i.links
IsFirstWrongLength i part.Messages = HasLength 1 most_nodes i.nodes × HasLength 1 most_processes i.processes × HasLength 0 most_links i.links × ¬ HasLength 0 most_messages i.messages

-- every rule before this one is kept, and here is its first failure
abbrev pub BreaksRule : Instance → Rule → Type 0 → Type 0
BreaksRule i rule Failure = KeepsRulesBefore i rule × Failure

-- The refusal that an instance earns, rule by rule. Which cycle is told, of several, is free. The search for one, and the
-- lists of what hangs on what behind it, alone take memory, so want of it comes only where every rule before that one is kept;
-- a message on both channels of one is looked for behind that search.
abbrev pub IsRefusal : Instance → ModelError → Type 0
IsRefusal i (Length list) = BreaksRule i Lengths (IsFirstWrongLength i list)
IsRefusal i (NoReceiver m) = BreaksRule i Receivers (IsFirstFailure (length i.messages) (HasReceiver i) m)
IsRefusal i (NameForm at) = BreaksRule i Names (FailsFirst (IsNamed i) at)
IsRefusal i (NameRepeated at) = BreaksRule i NewNames (FailsFirst (IsNewName i) at)
IsRefusal i (NoSuchIndex at) = BreaksRule i Indices (FailsFirst (NamesWhatIsThere i) at)
IsRefusal i (OutOfRange at) = BreaksRule i Ranges (FailsFirst (IsInRange i) at)
IsRefusal i (Capacities n) = BreaksRule i CapacityLists (IsFirstFailure (length i.nodes) (HasCapacityList i) n)
IsRefusal i (ReceiverOnSender m) = BreaksRule i ReceiversAway (IsFirstFailure (length i.messages) (SendsAway i) m)
IsRefusal i ShortLead = BreaksRule i Lead (¬ HasLead i)
IsRefusal i ShortTrail = BreaksRule i Trail (¬ HasTrail i)
IsRefusal i (Deadline p) = BreaksRule i Deadlines (IsFirstFailure (length i.processes) (CanEndInTime i) p)
IsRefusal i (LinkAcross l) = BreaksRule i LinkEnds (IsFirstFailure (length i.links) (StaysOnNode i) l)
IsRefusal i (ReceiverTwice m) = BreaksRule i ReceiversOnce (IsFirstFailure (length i.messages) (ReceivesOnce i) m)
IsRefusal i (Cycle ps) = BreaksRule i Cycles (IsCycle i ps)
IsRefusal i (BothOfOne m) = BreaksRule i Channels (IsFirstFailure (length i.messages) (HasChannels i) m)
IsRefusal i OutOfMemory = KeepsRulesBefore i Cycles
