-- What a text states, stage by stage, as its tables are read one list after another.
use Rattle.std.proofs.Common.{◌≡◌, List, Ok, Err, refl}
use Rattle.toml.specs.Data.{Members}
use Rattle.rates_model.specs.declared.parts.RatesCluster.{RatesCluster}
use Rattle.rates_model.specs.declared.parts.RatesNode.{RatesNode}
use Rattle.rates_model.specs.declared.parts.RatesProcess.{RatesProcess}
use Rattle.rates_model.specs.declared.parts.RatesLink.{RatesLink}
use Rattle.rates_model.specs.declared.parts.RatesMessage.{RatesMessage}
use Rattle.rates_model.specs.declared.parts.Chain.{Chain}
use Rattle.rates_model.specs.Rates.{Rates}
use Rattle.rates_model.specs.Finer.{finer}
use Rattle.rates_text.specs.declared.error.RatesTextError.{RatesTextError}
use Rattle.rates_text.specs.Kinds.{Index, index_in}
use Rattle.rates_text.specs.Stated.{Tables, stated_tables, cluster_of, nodes_of, processes_of, links_of, messages_of, chains_of, node_names, process_names, the_rates, stated_reads, stated_in, stated_in_its_ticks, stated}

-- where the tables are read, the rest is what they state
pub stated-tables : (table : Members) (ts : Tables) → stated_tables table ≡ Ok ts → stated_in_its_ticks table ≡ stated_in ts
stated-tables table ts reads_tables = rw reads_tables refl

-- in finer ticks
module _ (table : Members) where
  pub stated-finer : (rho : Rates) → stated_in_its_ticks table ≡ Ok rho → stated table ≡ Ok (finer rho)
  stated-finer rho reads = rw reads refl

  pub stated-fault : (e : RatesTextError) → stated_in_its_ticks table ≡ Err e → stated table ≡ Err e
  stated-fault e fault = rw fault refl

-- the parts before links
module _ (ts : Tables) (cluster : RatesCluster) (nodes : List RatesNode)
    (reads_cluster : Ok cluster ≡ cluster_of ts.cluster) (reads_nodes : nodes_of ts.nodes ≡ Ok nodes) where
  -- a fault of the processes
  pub stated-processes : (e : RatesTextError) → processes_of (index_in (node_names nodes)) ts.processes ≡ Err e → stated_in ts ≡ Err e
  stated-processes e fault = rw (← reads_cluster, reads_nodes, fault) refl

  -- and what is behind them
  pub stated-behind : (processes : List RatesProcess) → processes_of (index_in (node_names nodes)) ts.processes ≡ Ok processes
      → stated_in ts ≡ stated_reads (index_in (process_names processes)) ts cluster nodes processes
  stated-behind processes reads_processes = rw (← reads_cluster, reads_nodes, reads_processes) refl

-- links, messages and chains
module _ (index : Index) (known : Index) (ts : Tables) (cluster : RatesCluster) (nodes : List RatesNode) (processes : List RatesProcess) (knows : index ≡ known) where
  pub stated-links : (e : RatesTextError) → links_of index ts.links ≡ Err e → stated_reads known ts cluster nodes processes ≡ Err e
  stated-links e fault = rw (← knows, fault) refl

  module _ (links : List RatesLink) (reads_links : links_of index ts.links ≡ Ok links) where
    pub stated-messages : (e : RatesTextError) → messages_of index ts.messages ≡ Err e → stated_reads known ts cluster nodes processes ≡ Err e
    stated-messages e fault = rw (← knows, reads_links, fault) refl

    module _ (messages : List RatesMessage) (reads_messages : messages_of index ts.messages ≡ Ok messages) where
      pub stated-chains : (e : RatesTextError) → chains_of index ts.chains ≡ Err e → stated_reads known ts cluster nodes processes ≡ Err e
      stated-chains e fault = rw (← knows, reads_links, reads_messages, fault) refl

      -- and no fault at all
      pub stated-all : (chains : List Chain) → chains_of index ts.chains ≡ Ok chains
          → stated_reads known ts cluster nodes processes ≡ Ok (the_rates cluster nodes processes links messages chains)
      stated-all chains reads_chains = rw (← knows, reads_links, reads_messages, reads_chains) refl
