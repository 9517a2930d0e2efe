-- Lists of what hangs on what, made of an instance.
use Rattle.std.specs.Prelude.{ℕ, List}
use Rattle.ttp_model.specs.declared.groups.Groups.{Groups}
use Rattle.ttp_model.specs.declared.network.LinkLists.{LinkLists}
use Rattle.ttp_model.specs.declared.network.MessageLists.{MessageLists}
use Rattle.ttp_model.specs.declared.network.Network.{Network}
use Rattle.ttp_model.specs.declared.parts.Parts.{Parts}
use Rattle.ttp_model.specs.Instance.{Instance}
use Rattle.ttp_model.specs.Parts.{instance_of}
use Rattle.ttp_model.specs.Rules.{IsInstance}
use Rattle.ttp_model.specs.Groups.{AreLists}
use Rattle.ttp_model.specs.Network.{links_from, links_to, sent_by, received_by, processes_on, messages_of}

-- these are the lists, key by key
abbrev pub AreGroups : Groups → (ℕ → List ℕ) → Type 0
AreGroups groups of = AreLists groups.numbers.items groups.ends.items of

-- the lists of an instance's links
pub record AreLinksOf (i : Instance) (lists : LinkLists) : Type 0 where
  pub leading : AreGroups lists.before (links_from i)
  pub led : AreGroups lists.after (links_to i)

-- the lists of its messages
pub record AreMessagesOf (i : Instance) (lists : MessageLists) : Type 0 where
  pub sent : AreGroups lists.sender (sent_by i)
  pub received : AreGroups lists.receiver (received_by i)
  pub sourced : AreGroups lists.source (messages_of i)

-- all lists of an instance
pub record IsNetworkOf (i : Instance) (network : Network) : Type 0 where
  pub of_links : AreLinksOf i network.links
  pub of_messages : AreMessagesOf i network.messages
  pub of_processes : AreGroups network.processes (processes_on i)

-- tables that keep all rules, with their lists
pub record AreKept (parts : Parts) (network : Network) : Type 0 where
  pub instance : IsInstance (instance_of parts)
  pub lists : IsNetworkOf (instance_of parts) network
