-- A table's fault is never that the text is no TOML, that the model refuses it, or want of memory.
use Rattle.std.proofs.Common.{ℕ, ◌+◌, ℤ, pos, negsuc, Bool, true, false, cond, List, [], ◌∷◌, Option, None, Some, Ok, Err, IfErr, nat_lt}
use Rattle.toml.specs.Data.{Data, string, integer, boolean, array, table, Members}
use Rattle.instance_text.specs.declared.error.Place.TheVariants.{Top, Cluster, Node, Process, Link, Message}
use Rattle.rates_text.specs.declared.error.RatesKey.{RatesKey}
use Rattle.rates_text.specs.declared.error.RatesTable.{RatesTable}
use Rattle.rates_text.specs.declared.error.RatesTextError.{RatesTextError}
use Rattle.rates_text.specs.declared.error.RatesTextError.TheVariants.{NotToml, Refused, OutOfMemory}
use Rattle.rates_text.specs.Rows.{KeyRow, Kind, one_table, tables, number, number_or_none, truth, text, node, process, processes, rows}
use Rattle.rates_text.specs.Kinds.{Stated, ◌>>=◌, each, Index, index_in, KnownNames, list_of, table_of, fitting, number_of, truth_of, bytes_of, found_index, index_of, array_of, value_of}
use Rattle.rates_text.specs.Tables.{missing, found, at_row, Making, in_turn, keys_at, has_only, table_at}
use Rattle.rates_text.specs.declared.error.RatesTable.TheVariants as at
use Rattle.rates_model.specs.declared.parts.RatesCluster.{RatesCluster}
use Rattle.rates_model.specs.declared.parts.RatesNode.{RatesNode}
use Rattle.rates_model.specs.declared.parts.RatesProcess.{RatesProcess}
use Rattle.rates_model.specs.declared.parts.RatesLink.{RatesLink}
use Rattle.rates_model.specs.declared.parts.RatesMessage.{RatesMessage}
use Rattle.rates_model.specs.declared.parts.Chain.{Chain}
use Rattle.rates_text.specs.Stated.{Tables, stated_tables, cluster_of, stated_node, nodes_of, process_of, processes_of, link_of, links_of, message_of, messages_of, chain_of, chains_of, the_tables, the_cluster, the_node, the_process, the_link, the_message, the_chain, none_known, knows_nodes, knows_processes, node_names, process_names, stated_in_its_ticks, stated}

-- a fault of a table
abbrev pub IsTableFault : RatesTextError → Type 0
IsTableFault NotToml = ⊥
IsTableFault (Refused e) = ⊥
IsTableFault OutOfMemory = ⊥
IsTableFault _ = Unit {0}

-- this part has no other fault
abbrev pub HasTableFault : {A : Type 0} → Stated A → Type 0
HasTableFault part = IfErr part IsTableFault

-- of two parts one after another
HasTableFault-then : {A B : Type 0} (part : Stated A) (next : A → Stated B)
    → HasTableFault part → ((x : A) → HasTableFault (next x)) → HasTableFault (part >>= next)
HasTableFault-then (Ok x) next first second = second x
HasTableFault-then (Err e) next first second = first

-- of the items of a list
HasTableFault-each : {A B : Type 0} (read : ℕ → A → Stated B) → ((i : ℕ) (x : A) → HasTableFault (read i x))
    → (start : ℕ) (xs : List A) → HasTableFault (each read start xs)
HasTableFault-each read one start [] = tt
HasTableFault-each read one start (x ∷ xs) =
    HasTableFault-then (read start x) _ (one start x) (λ y.
    HasTableFault-then (each read (start + 1) xs) _ (HasTableFault-each read one (start + 1) xs) (λ ys. tt))

HasTableFault-if : {A : Type 0} (b : Bool) (part other : Stated A)
    → HasTableFault part → HasTableFault other → HasTableFault (cond b part other)
HasTableFault-if true part other first second = first
HasTableFault-if false part other first second = second

module _ (place : RatesTable) (key : RatesKey) where
  HasTableFault-fitting : (z : ℤ) → HasTableFault (fitting place key z)
  HasTableFault-fitting (pos n) = HasTableFault-if (nat_lt n 4294967296) _ _ tt tt
  HasTableFault-fitting (negsuc n) = tt

  HasTableFault-found_index : (found : Option ℕ) → HasTableFault (found_index place key found)
  HasTableFault-found_index None = tt
  HasTableFault-found_index (Some index) = tt

  HasTableFault-number_of : (d : Data) → HasTableFault (number_of place key d)
  HasTableFault-number_of (integer z) = HasTableFault-fitting z
  HasTableFault-number_of _ = tt

  HasTableFault-table_of : (d : Data) → HasTableFault (table_of place key d)
  HasTableFault-table_of (table ms) = tt
  HasTableFault-table_of _ = tt

  HasTableFault-truth_of : (d : Data) → HasTableFault (truth_of place key d)
  HasTableFault-truth_of (boolean b) = tt
  HasTableFault-truth_of _ = tt

  HasTableFault-bytes_of : (d : Data) → HasTableFault (bytes_of place key d)
  HasTableFault-bytes_of (string s) = tt
  HasTableFault-bytes_of _ = tt

  HasTableFault-index_of : (index : Index) (d : Data) → HasTableFault (index_of place key index d)
  HasTableFault-index_of index (string s) = HasTableFault-found_index (index s)
  HasTableFault-index_of index _ = tt

  HasTableFault-array_of : {A : Type 0} (read : Data → Stated A) → ((d : Data) → HasTableFault (read d))
      → (d : Data) → HasTableFault (array_of place key read d)
  HasTableFault-array_of read one (array ds) = HasTableFault-each (λ _ d. read d) (λ _ d. one d) 0 (list_of ds)
  HasTableFault-array_of read one _ = tt

  -- of a value of each kind
  HasTableFault-value_of : (known : KnownNames) (kind : Kind) (d : Data) → HasTableFault (value_of place key known kind d)
  HasTableFault-value_of known one_table d = HasTableFault-table_of d
  HasTableFault-value_of known tables d = HasTableFault-array_of (table_of place key) HasTableFault-table_of d
  HasTableFault-value_of known number d = HasTableFault-number_of d
  HasTableFault-value_of known number_or_none d = HasTableFault-then (number_of place key d) _ (HasTableFault-number_of d) (λ n. tt)
  HasTableFault-value_of known truth d = HasTableFault-truth_of d
  HasTableFault-value_of known text d = HasTableFault-bytes_of d
  HasTableFault-value_of known node d = HasTableFault-index_of known.nodes d
  HasTableFault-value_of known process d = HasTableFault-index_of known.processes d
  HasTableFault-value_of known processes d =
      HasTableFault-array_of (index_of place key known.processes) (HasTableFault-index_of known.processes) d

  HasTableFault-missing : {A : Type 0} (read : Data → Stated A) (default : Option A)
      → HasTableFault (missing place key read default default)
  HasTableFault-missing read None = tt
  HasTableFault-missing read (Some value) = tt

  HasTableFault-found : {A : Type 0} (read : Data → Stated A) (default : Option A)
      → ((d : Data) → HasTableFault (read d)) → (value : Option Data) → HasTableFault (found place key read default value)
  HasTableFault-found read default one (Some d) = one d
  HasTableFault-found read default one None = HasTableFault-missing read default

-- of the keys of a table
HasTableFault-in_turn : (A : Type 0) (place : RatesTable) (known : KnownNames) (ms : Members) (rs : List KeyRow) (make : Making A rs)
    → HasTableFault (in_turn place known ms rs make)
HasTableFault-in_turn A place known ms [] make = tt
HasTableFault-in_turn A place known ms (r ∷ rs) make =
    HasTableFault-then (at_row place known ms r) _
    (HasTableFault-found place r.key (value_of place r.key known r.kind) r.default (HasTableFault-value_of place r.key known r.kind) _)
    (λ v. HasTableFault-in_turn A place known ms rs (make v))

-- of a table
HasTableFault-table_at : (A : Type 0) (place : RatesTable) (known : KnownNames) (make : Making A (rows place)) (ms : Members)
    → HasTableFault (table_at place known make ms)
HasTableFault-table_at A place known make ms =
    HasTableFault-if (has_only (keys_at place) ms) _ _ (HasTableFault-in_turn A place known ms (rows place) make) tt

-- of the tables of an array
HasTableFault-nodes_of : (ts : Tables) → HasTableFault (nodes_of ts.nodes)
HasTableFault-nodes_of ts =
    HasTableFault-each stated_node (λ n t. HasTableFault-table_at RatesNode (at.Of (Node n)) none_known the_node t) 0 ts.nodes

module _ (ts : Tables) (index : Index) where
  HasTableFault-processes_of : HasTableFault (processes_of index ts.processes)
  HasTableFault-processes_of =
      HasTableFault-each (process_of index)
      (λ p t. HasTableFault-table_at RatesProcess (at.Of (Process p)) (knows_nodes index) the_process t) 0 ts.processes

  HasTableFault-links_of : HasTableFault (links_of index ts.links)
  HasTableFault-links_of =
      HasTableFault-each (link_of index)
      (λ l t. HasTableFault-table_at RatesLink (at.Of (Link l)) (knows_processes index) the_link t) 0 ts.links

  HasTableFault-messages_of : HasTableFault (messages_of index ts.messages)
  HasTableFault-messages_of =
      HasTableFault-each (message_of index)
      (λ m t. HasTableFault-table_at RatesMessage (at.Of (Message m)) (knows_processes index) the_message t) 0 ts.messages

  HasTableFault-chains_of : HasTableFault (chains_of index ts.chains)
  HasTableFault-chains_of =
      HasTableFault-each (chain_of index)
      (λ c t. HasTableFault-table_at Chain (at.Chain c) (knows_processes index) the_chain t) 0 ts.chains

-- of a whole text
HasTableFault-stated_in_its_ticks : (ms : Members) → HasTableFault (stated_in_its_ticks ms)
HasTableFault-stated_in_its_ticks ms =
    HasTableFault-then (stated_tables ms) _ (HasTableFault-table_at Tables (at.Of Top) none_known the_tables ms) (λ ts.
    HasTableFault-then (cluster_of ts.cluster) _
    (HasTableFault-table_at RatesCluster (at.Of Cluster) none_known the_cluster ts.cluster) (λ cluster.
    HasTableFault-then (nodes_of ts.nodes) _ (HasTableFault-nodes_of ts) (λ nodes.
    let at_nodes : Index = index_in (node_names nodes) in
    HasTableFault-then (processes_of at_nodes ts.processes) _ (HasTableFault-processes_of ts at_nodes) (λ processes.
    let at_processes : Index = index_in (process_names processes) in
    HasTableFault-then (links_of at_processes ts.links) _ (HasTableFault-links_of ts at_processes) (λ links.
    HasTableFault-then (messages_of at_processes ts.messages) _ (HasTableFault-messages_of ts at_processes) (λ messages.
    HasTableFault-then (chains_of at_processes ts.chains) _ (HasTableFault-chains_of ts at_processes)
    (λ chains. tt)))))))

pub HasTableFault-stated : (ms : Members) → HasTableFault (stated ms)
HasTableFault-stated ms = HasTableFault-then (stated_in_its_ticks ms) _ (HasTableFault-stated_in_its_ticks ms) (λ rho. tt)
