-- A cluster whose processes have periods of their own, as lists, and how its parts are read by their indices.
use Rattle.std.specs.Prelude.{ℕ, List, [], false, slice_index_or}
use Rattle.rates_model.specs.declared.parts.RatesCluster.{RatesCluster}
use Rattle.rates_model.specs.declared.parts.RatesNode.{RatesNode}
use Rattle.rates_model.specs.declared.parts.RatesProcess.{RatesProcess}
use Rattle.rates_model.specs.declared.parts.RatesLink.{RatesLink}
use Rattle.rates_model.specs.declared.parts.RatesMessage.{RatesMessage}
use Rattle.rates_model.specs.declared.parts.Chain.{Chain}

-- the numbers of a cluster, its nodes, the processes with their links and messages, and chains with bounds on their ages
pub record Rates : Type 0 where
  pub cluster : RatesCluster
  pub nodes : List RatesNode
  pub processes : List RatesProcess
  pub links : List RatesLink
  pub messages : List RatesMessage
  pub chains : List Chain

-- The next five are read past the end of a list, where no rule looks.
abbrev pub no_node : RatesNode
no_node = record { name = []; capacity = 0 }

-- no process: on node 0, of no length
abbrev pub no_process : RatesProcess
no_process = record { name = []; node = 0; wcet = 0; period = 0; release = 0; deadline = 0 }

-- no link: from process 0 to itself
abbrev pub no_link : RatesLink
no_link = record { before = 0; after = 0; delay = 0 }

-- no message: from process 0 to nobody
abbrev pub no_message : RatesMessage
no_message = record { name = []; sender = 0; receivers = []; bytes = 0; both = false; delay = 0 }

-- no chain: through no process
abbrev pub no_chain : Chain
no_chain = record { name = []; through = []; age = 0 }

-- the node of this index
abbrev pub node_at : Rates → ℕ → RatesNode
node_at rho n = slice_index_or rho.nodes n no_node

-- the process of this index
abbrev pub process_at : Rates → ℕ → RatesProcess
process_at rho p = slice_index_or rho.processes p no_process

-- the link of this index
abbrev pub link_at : Rates → ℕ → RatesLink
link_at rho l = slice_index_or rho.links l no_link

-- the message of this index
abbrev pub message_at : Rates → ℕ → RatesMessage
message_at rho m = slice_index_or rho.messages m no_message

-- the chain of this index
abbrev pub chain_at : Rates → ℕ → Chain
chain_at rho c = slice_index_or rho.chains c no_chain

-- the node that a process is on
abbrev pub node_of : Rates → ℕ → ℕ
node_of rho p = (process_at rho p).node

-- how many ticks lie between the begins of two periods of a process
abbrev pub period_of : Rates → ℕ → ℕ
period_of rho p = (process_at rho p).period
