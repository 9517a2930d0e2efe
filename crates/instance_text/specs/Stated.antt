-- The instance that a TOML table states, or its first fault.
use Rattle.std.specs.Prelude.{ℕ, Bool, List, map, None, Ok}
use Rattle.toml.specs.Data.{Members}
use Rattle.ttp_model.specs.declared.parts.Cluster.{Cluster}
use Rattle.ttp_model.specs.declared.parts.Node.{Node}
use Rattle.ttp_model.specs.declared.parts.Process.{Process}
use Rattle.ttp_model.specs.declared.parts.Link.{Link}
use Rattle.ttp_model.specs.declared.parts.Message.{Message}
use Rattle.ttp_model.specs.Instance.{Instance, instance_with}
use Rattle.instance_text.specs.declared.error.Place.TheVariants as at
use Rattle.instance_text.specs.Kinds.{Stated, ◌>>=◌, each, Index, KnownNames, index_in}
use Rattle.instance_text.specs.Tables.{table_at}

-- the tables of a text, those of each array in their order
pub record Tables : Type 0 where
  pub cluster : Members
  pub nodes : List Members
  pub processes : List Members
  pub links : List Members
  pub messages : List Members

-- The next six take what the rows of a table state, in their order.
abbrev pub the_tables : Members → List Members → List Members → List Members → List Members → Tables
the_tables cluster nodes processes links messages = record {
  cluster = cluster;
  nodes = nodes;
  processes = processes;
  links = links;
  messages = messages;
}

-- the numbers of a cluster
abbrev pub the_cluster : ℕ → ℕ → ℕ → ℕ → ℕ → ℕ → ℕ → ℕ → ℕ → Cluster
the_cluster precision lead trail head per_byte copy_out copy_in horizon channels = record {
  precision = precision;
  lead = lead;
  trail = trail;
  head = head;
  per_byte = per_byte;
  copy_out = copy_out;
  copy_in = copy_in;
  horizon = horizon;
  channels = channels;
}

-- a node
abbrev pub the_node : List ℕ → List ℕ → Node
the_node name capacities = record { name = name; capacities = capacities }

-- a process, on the node of this index
abbrev pub the_process : List ℕ → ℕ → ℕ → ℕ → ℕ → Process
the_process name node wcet release deadline = record {
  name = name;
  node = node;
  wcet = wcet;
  release = release;
  deadline = deadline;
}

-- a link from one process to another, by their indices
abbrev pub the_link : ℕ → ℕ → Link
the_link from to = record { before = from; after = to }

-- a message from one process to others, by their indices
abbrev pub the_message : List ℕ → ℕ → List ℕ → ℕ → Bool → Message
the_message name from to bytes both = record {
  name = name;
  sender = from;
  receivers = to;
  bytes = bytes;
  both = both;
}

-- no name is known
abbrev pub none_known : KnownNames
none_known = record { nodes = λ _. None; processes = λ _. None }

-- the names of nodes are known, as a process may name them
abbrev pub knows_nodes : Index → KnownNames
knows_nodes index = record none_known { nodes = index }

-- the names of processes are known, as a link or a message may name them
abbrev pub knows_processes : Index → KnownNames
knows_processes index = record none_known { processes = index }

-- the top table, with the items of its arrays
abbrev pub stated_tables : Members → Stated Tables
stated_tables = table_at at.Top none_known the_tables

-- the table [cluster]
abbrev pub cluster_of : Members → Stated Cluster
cluster_of = table_at at.Cluster none_known the_cluster

-- the table [[node]] of this index
abbrev pub stated_node : ℕ → Members → Stated Node
stated_node n = table_at (at.Node n) none_known the_node

-- the tables [[node]]
abbrev pub nodes_of : List Members → Stated (List Node)
nodes_of = each stated_node 0

-- the table [[process]] of this index, where these are the names of nodes
abbrev pub process_of : Index → ℕ → Members → Stated Process
process_of nodes p = table_at (at.Process p) (knows_nodes nodes) the_process

-- the tables [[process]]
abbrev pub processes_of : Index → List Members → Stated (List Process)
processes_of nodes = each (process_of nodes) 0

-- the table [[link]] of this index, where these are the names of processes
abbrev pub link_of : Index → ℕ → Members → Stated Link
link_of processes l = table_at (at.Link l) (knows_processes processes) the_link

-- the tables [[link]]
abbrev pub links_of : Index → List Members → Stated (List Link)
links_of processes = each (link_of processes) 0

-- the table [[message]] of this index, where these are the names of processes
abbrev pub message_of : Index → ℕ → Members → Stated Message
message_of processes m = table_at (at.Message m) (knows_processes processes) the_message

-- the tables [[message]]
abbrev pub messages_of : Index → List Members → Stated (List Message)
messages_of processes = each (message_of processes) 0

-- the names of nodes
abbrev pub node_names : List Node → List (List ℕ)
node_names nodes = map (λ n. n.name) nodes

-- the names of processes
abbrev pub process_names : List Process → List (List ℕ)
process_names processes = map (λ p. p.name) processes

-- The instance of these tables, where the names of a list state indices so, each table in order. A process may name any
-- node, and a link or a message any process.
abbrev pub stated_in : (List (List ℕ) → Index) → Tables → Stated Instance
stated_in index_of tables =
    cluster_of tables.cluster >>= (λ cluster.
    nodes_of tables.nodes >>= (λ nodes.
    processes_of (index_of (node_names nodes)) tables.processes >>= (λ processes.
    links_of (index_of (process_names processes)) tables.links >>= (λ links.
    messages_of (index_of (process_names processes)) tables.messages >>= (λ messages.
    Ok (instance_with cluster nodes processes links messages))))))

-- the whole instance: the top table first
abbrev pub stated_by : (List (List ℕ) → Index) → Members → Stated Instance
stated_by index_of ms = stated_tables ms >>= (λ tables. stated_in index_of tables)

-- a name states its index
abbrev pub stated : Members → Stated Instance
stated ms = stated_by index_in ms
