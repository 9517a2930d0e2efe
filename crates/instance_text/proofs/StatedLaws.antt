-- What a text states, stage by stage, as its tables are read one list after another.
use Rattle.std.proofs.Common.{◌≡◌, ℕ, List, Ok, Err, refl}
use Rattle.toml.specs.Data.{Members}
use Rattle.ttp_model.specs.declared.parts.Cluster.{Cluster}
use Rattle.ttp_model.specs.declared.parts.Node.{Node}
use Rattle.ttp_model.specs.declared.parts.Process.{Process}
use Rattle.ttp_model.specs.declared.parts.Link.{Link}
use Rattle.ttp_model.specs.declared.parts.Message.{Message}
use Rattle.ttp_model.specs.Instance.{instance_with}
use Rattle.instance_text.specs.declared.error.TextError.{TextError}
use Rattle.instance_text.specs.Kinds.{Index}
use Rattle.instance_text.specs.Stated.{Tables, stated_tables, cluster_of, nodes_of, processes_of, links_of, messages_of, node_names, process_names, stated_in, stated_by}

-- where the tables are read, the rest is what they state
pub stated-tables : (index_of : List (List ℕ) → Index) (table : Members) (ts : Tables) → stated_tables table ≡ Ok ts
    → stated_by index_of table ≡ stated_in index_of ts
stated-tables index_of table ts reads_tables = rw reads_tables refl

module _ (index_of : List (List ℕ) → Index) (ts : Tables) (cluster : Cluster) (nodes : List Node)
    (reads_cluster : Ok cluster ≡ cluster_of ts.cluster) (reads_nodes : nodes_of ts.nodes ≡ Ok nodes) where
  -- a fault of the processes
  pub stated-processes : (e : TextError) → processes_of (index_of (node_names nodes)) ts.processes ≡ Err e → stated_in index_of ts ≡ Err e
  stated-processes e fault = rw (← reads_cluster, reads_nodes, fault) refl

  module _ (processes : List Process) (index : Index)
      (reads_processes : processes_of (index_of (node_names nodes)) ts.processes ≡ Ok processes)
      (knows : index ≡ index_of (process_names processes)) where
    -- a fault of the links
    pub stated-links : (e : TextError) → links_of index ts.links ≡ Err e → stated_in index_of ts ≡ Err e
    stated-links e fault = rw (← reads_cluster, reads_nodes, reads_processes, ← knows, fault) refl

    module _ (links : List Link) (reads_links : links_of index ts.links ≡ Ok links) where
      -- a fault of the messages
      pub stated-messages : (e : TextError) → messages_of index ts.messages ≡ Err e → stated_in index_of ts ≡ Err e
      stated-messages e fault = rw (← reads_cluster, reads_nodes, reads_processes, ← knows, reads_links, fault) refl

      -- and no fault at all
      pub stated-all : (messages : List Message) → messages_of index ts.messages ≡ Ok messages
          → stated_in index_of ts ≡ Ok (instance_with cluster nodes processes links messages)
      stated-all messages reads_messages =
          rw (← reads_cluster, reads_nodes, reads_processes, ← knows, reads_links, reads_messages) refl
