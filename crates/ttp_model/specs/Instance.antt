-- What is to be scheduled, as lists, and how its parts are read by their indices. The model is that of
-- Pop, Eles and Peng (CODES 1999): nodes on one bus, processes mapped to them, links and messages.
use Rattle.std.specs.Prelude.{ℕ, List, [], false, slice_index_or}
use Rattle.ttp_model.specs.declared.parts.Cluster.{Cluster}
use Rattle.ttp_model.specs.declared.parts.Node.{Node}
use Rattle.ttp_model.specs.declared.parts.Process.{Process}
use Rattle.ttp_model.specs.declared.parts.Link.{Link}
use Rattle.ttp_model.specs.declared.parts.Message.{Message}

-- the numbers of a cluster, its nodes, and the processes with their links and messages
pub record Instance : Type 0 where
  pub cluster : Cluster
  pub nodes : List Node
  pub processes : List Process
  pub links : List Link
  pub messages : List Message

-- the instance of these five parts
abbrev pub instance_with : Cluster → List Node → List Process → List Link → List Message → Instance
instance_with cluster nodes processes links messages = record {
  cluster = cluster;
  nodes = nodes;
  processes = processes;
  links = links;
  messages = messages;
}

-- The next four are read past the end of a list, where no rule looks.
abbrev pub no_node : Node
no_node = record { name = []; capacities = [] }

-- no process: on node 0, of no length
abbrev pub no_process : Process
no_process = record { name = []; node = 0; wcet = 0; release = 0; deadline = 0 }

-- no link: from process 0 to itself
abbrev pub no_link : Link
no_link = record { before = 0; after = 0 }

-- no message: from process 0 to nobody
abbrev pub no_message : Message
no_message = record { name = []; sender = 0; receivers = []; bytes = 0; both = false }

-- the node of this index
abbrev pub node_at : Instance → ℕ → Node
node_at i n = slice_index_or i.nodes n no_node

-- the process of this index
abbrev pub process_at : Instance → ℕ → Process
process_at i p = slice_index_or i.processes p no_process

-- the link of this index
abbrev pub link_at : Instance → ℕ → Link
link_at i l = slice_index_or i.links l no_link

-- the message of this index
abbrev pub message_at : Instance → ℕ → Message
message_at i m = slice_index_or i.messages m no_message

-- the node that a process is mapped to
abbrev pub node_of : Instance → ℕ → ℕ
node_of i p = (process_at i p).node

-- the node that a message is sent from: that of its sender
abbrev pub source_of : Instance → ℕ → ℕ
source_of i m = node_of i (message_at i m).sender
