-- The cluster of several rates that a TOML table states, or its first fault.
use Rattle.std.specs.Prelude.{ℕ, Bool, List, map, Option, None, Ok, unwrap_or}
use Rattle.toml.specs.Data.{Members}
use Rattle.instance_text.specs.declared.error.Place.TheVariants.{Top, Cluster, Node, Process, Link, Message}
use Rattle.rates_model.specs.declared.parts.RatesCluster.{RatesCluster}
use Rattle.rates_model.specs.declared.parts.RatesNode.{RatesNode}
use Rattle.rates_model.specs.declared.parts.RatesProcess.{RatesProcess}
use Rattle.rates_model.specs.declared.parts.RatesLink.{RatesLink}
use Rattle.rates_model.specs.declared.parts.RatesMessage.{RatesMessage}
use Rattle.rates_model.specs.declared.parts.Chain.{Chain}
use Rattle.rates_model.specs.Rates.{Rates}
use Rattle.rates_model.specs.Finer.{finer}
use Rattle.rates_text.specs.declared.error.RatesTable.TheVariants as at
use Rattle.rates_text.specs.Kinds.{Stated, ◌>>=◌, each, Index, KnownNames, index_in}
use Rattle.rates_text.specs.Tables.{table_at}

-- the tables of a text, those of each array in their order
pub record Tables : Type 0 where
  pub cluster : Members
  pub nodes : List Members
  pub processes : List Members
  pub links : List Members
  pub messages : List Members
  pub chains : List Members

-- The next seven take what the rows of a table state, in their order.
abbrev pub the_tables : Members → List Members → List Members → List Members → List Members → List Members → Tables
the_tables cluster nodes processes links messages chains = record {
  cluster = cluster;
  nodes = nodes;
  processes = processes;
  links = links;
  messages = messages;
  chains = chains;
}

-- the numbers of a cluster, in ticks of the text
abbrev pub the_cluster : ℕ → ℕ → ℕ → ℕ → ℕ → ℕ → ℕ → ℕ → ℕ → Option ℕ → RatesCluster
the_cluster precision lead trail head per_byte copy_out copy_in channels store round = record {
  precision = precision;
  lead = lead;
  trail = trail;
  head = head;
  per_byte = per_byte;
  copy_out = copy_out;
  copy_in = copy_in;
  channels = channels;
  store = store;
  round = round;
  finer = 1;
}

-- a node
abbrev pub the_node : List ℕ → ℕ → RatesNode
the_node name capacity = record { name = name; capacity = capacity }

-- a process, on the node of this index; a missing deadline is its period
abbrev pub the_process : List ℕ → ℕ → ℕ → ℕ → ℕ → Option ℕ → RatesProcess
the_process name node wcet period release deadline = record {
  name = name;
  node = node;
  wcet = wcet;
  period = period;
  release = release;
  deadline = unwrap_or deadline period;
}

-- a link from one process to another, by their indices
abbrev pub the_link : ℕ → ℕ → ℕ → RatesLink
the_link from to delay = record { before = from; after = to; delay = delay }

-- a message from one process to others, by their indices
abbrev pub the_message : List ℕ → ℕ → List ℕ → ℕ → Bool → ℕ → RatesMessage
the_message name from to bytes both delay = record {
  name = name;
  sender = from;
  receivers = to;
  bytes = bytes;
  both = both;
  delay = delay;
}

-- a chain through processes, by their indices
abbrev pub the_chain : List ℕ → List ℕ → ℕ → Chain
the_chain name through age = record { name = name; through = through; age = age }

-- no name is known
abbrev pub none_known : KnownNames
none_known = record { nodes = λ _. None; processes = λ _. None }

-- these are the names of nodes
abbrev pub knows_nodes : Index → KnownNames
knows_nodes nodes = record { nodes = nodes; processes = λ _. None }

-- these are the names of processes
abbrev pub knows_processes : Index → KnownNames
knows_processes processes = record { nodes = λ _. None; processes = processes }

-- the top table
abbrev pub stated_tables : Members → Stated Tables
stated_tables = table_at (at.Of Top) none_known the_tables

-- the table [cluster]
abbrev pub cluster_of : Members → Stated RatesCluster
cluster_of = table_at (at.Of Cluster) none_known the_cluster

-- the table [[node]] of this index
abbrev pub stated_node : ℕ → Members → Stated RatesNode
stated_node n = table_at (at.Of (Node n)) none_known the_node

-- the tables [[node]]
abbrev pub nodes_of : List Members → Stated (List RatesNode)
nodes_of = each stated_node 0

-- the table [[process]] of this index, where these are the names of nodes
abbrev pub process_of : Index → ℕ → Members → Stated RatesProcess
process_of nodes p = table_at (at.Of (Process p)) (knows_nodes nodes) the_process

-- the tables [[process]]
abbrev pub processes_of : Index → List Members → Stated (List RatesProcess)
processes_of nodes = each (process_of nodes) 0

-- the table [[link]] of this index, where these are the names of processes
abbrev pub link_of : Index → ℕ → Members → Stated RatesLink
link_of processes l = table_at (at.Of (Link l)) (knows_processes processes) the_link

-- the tables [[link]]
abbrev pub links_of : Index → List Members → Stated (List RatesLink)
links_of processes = each (link_of processes) 0

-- the table [[message]] of this index, where these are the names of processes
abbrev pub message_of : Index → ℕ → Members → Stated RatesMessage
message_of processes m = table_at (at.Of (Message m)) (knows_processes processes) the_message

-- the tables [[message]]
abbrev pub messages_of : Index → List Members → Stated (List RatesMessage)
messages_of processes = each (message_of processes) 0

-- the table [[chain]] of this index, where these are the names of processes
abbrev pub chain_of : Index → ℕ → Members → Stated Chain
chain_of processes c = table_at (at.Chain c) (knows_processes processes) the_chain

-- the tables [[chain]]
abbrev pub chains_of : Index → List Members → Stated (List Chain)
chains_of processes = each (chain_of processes) 0

-- the names of nodes
abbrev pub node_names : List RatesNode → List (List ℕ)
node_names nodes = map (λ n. n.name) nodes

-- the names of processes
abbrev pub process_names : List RatesProcess → List (List ℕ)
process_names processes = map (λ p. p.name) processes

-- a cluster of these six parts
abbrev pub the_rates : RatesCluster → List RatesNode → List RatesProcess → List RatesLink → List RatesMessage → List Chain → Rates
the_rates cluster nodes processes links messages chains = record {
  cluster = cluster;
  nodes = nodes;
  processes = processes;
  links = links;
  messages = messages;
  chains = chains;
}

-- The links, messages and chains of these tables, where a name of a process states its index so, behind the rest.
abbrev pub stated_reads : Index → Tables → RatesCluster → List RatesNode → List RatesProcess → Stated Rates
stated_reads index tables cluster nodes processes =
    links_of index tables.links >>= (λ links.
    messages_of index tables.messages >>= (λ messages.
    chains_of index tables.chains >>= (λ chains.
    Ok (the_rates cluster nodes processes links messages chains))))

-- What these tables state, each table in order. A process may name any node, and a link, a message or a chain any process.
abbrev pub stated_in : Tables → Stated Rates
stated_in tables =
    cluster_of tables.cluster >>= (λ cluster.
    nodes_of tables.nodes >>= (λ nodes.
    processes_of (index_in (node_names nodes)) tables.processes >>= (λ processes.
    stated_reads (index_in (process_names processes)) tables cluster nodes processes)))

-- the whole cluster, in ticks of the text: the top table first
abbrev pub stated_in_its_ticks : Members → Stated Rates
stated_in_its_ticks ms = stated_tables ms >>= (λ tables. stated_in tables)

-- and in ticks so fine that its round is as long as it asks for
abbrev pub stated : Members → Stated Rates
stated ms = stated_in_its_ticks ms >>= (λ rho. Ok (finer rho))
