-- The instance of one cycle of a cluster of several rates: its processes are the jobs of the cycle and the stores for the
-- next one, its links and messages lead from each job that is read to the jobs that read it.
use Rattle.std.specs.Prelude.{ℕ, ◌+◌, ◌*◌, ◌==◌, List, [], ◌∷◌, ◌++◌, length, map, filter, if◌then◌else◌}
use Rattle.std.specs.List.{flat_map, range_with_len}
use Rattle.ttp_model.specs.declared.parts.Node.{Node}
use Rattle.ttp_model.specs.declared.parts.Process.{Process}
use Rattle.ttp_model.specs.declared.parts.Link.{Link}
use Rattle.ttp_model.specs.declared.parts.Message.{Message}
use Rattle.ttp_model.specs.Instance.{Instance, instance_with}
use Rattle.rates_model.specs.declared.parts.RatesNode.{RatesNode}
use Rattle.rates_model.specs.declared.parts.RatesLink.{RatesLink}
use Rattle.rates_model.specs.declared.parts.RatesMessage.{RatesMessage}
use Rattle.rates_model.specs.Rates.{Rates, node_at, process_at, message_at, period_of}
use Rattle.rates_model.specs.Cycles.{bus_for, horizon_of, jobs_of}
use Rattle.rates_model.specs.Reads.{last_begun, reads_now}
use Rattle.endless_schedules.specs.Names.{numbered, stored_name}
use Rattle.endless_schedules.specs.Times.{job_deadline}
use Rattle.endless_schedules.specs.Stores.{storing_nodes, job_index, first_store}

-- the numbers from 0 on below a count
abbrev pub below : ℕ → List ℕ
below count = range_with_len 0 count

-- a node, which has one capacity
unfoldable pub unrolled_node : RatesNode → Node
unrolled_node n = record { name = n.name; capacities = n.capacity ∷ [] }

-- job k of process p
unfoldable pub job : Rates → ℕ → ℕ → Process
job rho p k = record {
  name = numbered (process_at rho p).name (jobs_of rho p) k;
  node = (process_at rho p).node;
  wcet = (process_at rho p).wcet;
  release = k * period_of rho p + (process_at rho p).release;
  deadline = job_deadline rho p k;
}

-- the jobs of process p
unfoldable pub jobs : Rates → ℕ → List Process
jobs rho p = map (job rho p) (below (jobs_of rho p))

-- the store of a message at a node
unfoldable pub store : Rates → RatesMessage → ℕ → Process
store rho m n = record {
  name = stored_name m.name (node_at rho n).name;
  node = n;
  wcet = rho.cluster.store;
  release = 0;
  deadline = horizon_of rho;
}

-- the stores of a message, by nodes
unfoldable pub stores : Rates → RatesMessage → List Process
stores rho m = map (store rho m) (storing_nodes rho m)

-- the link to job j of the process that a link leads to, from the job that it reads
unfoldable pub link_to : Rates → RatesLink → ℕ → Link
link_to rho l j = record {
  before = job_index rho l.before (last_begun rho l.before l.after j);
  after = job_index rho l.after j;
}

-- the links to its jobs; with a delay of 1 none is needed, since the job that is read has to end in a period before
unfoldable pub links_of : Rates → RatesLink → List Link
links_of rho l = if l.delay == 0 then map (link_to rho l) (below (jobs_of rho l.after)) else []

-- the jobs of q that read job k of a message's sender in the same cycle, by their indices
unfoldable pub jobs_reading : Rates → RatesMessage → ℕ → ℕ → List ℕ
jobs_reading rho m k q = map (job_index rho q) (filter (reads_now rho m.sender q m.delay k) (below (jobs_of rho q)))

-- the stores of message m that keep job k of its sender for the next cycle, by their indices: all of them, where it is the last
unfoldable pub stores_reading : Rates → ℕ → ℕ → List ℕ
stores_reading rho m k =
    if k + 1 == jobs_of rho (message_at rho m).sender
    then map (λ place. first_store rho m + place) (below (length (storing_nodes rho (message_at rho m))))
    else []

-- all that read job k of a message's sender
unfoldable pub readers : Rates → ℕ → ℕ → List ℕ
readers rho m k = flat_map (jobs_reading rho (message_at rho m) k) (message_at rho m).receivers ++ stores_reading rho m k

-- the message with what job k of the sender makes
unfoldable pub job_message : Rates → ℕ → ℕ → Message
job_message rho m k = record {
  name = numbered (message_at rho m).name (jobs_of rho (message_at rho m).sender) k;
  sender = job_index rho (message_at rho m).sender k;
  receivers = readers rho m k;
  bytes = (message_at rho m).bytes;
  both = (message_at rho m).both;
}

-- what is sent of it: nothing where nobody reads it
unfoldable pub sent_of : Rates → ℕ → ℕ → List Message
sent_of rho m k = if length (readers rho m k) == 0 then [] else job_message rho m k ∷ []

-- what is sent of message m, job by job of its sender
unfoldable pub messages_of : Rates → ℕ → List Message
messages_of rho m = flat_map (sent_of rho m) (below (jobs_of rho (message_at rho m).sender))

-- the processes: all jobs, and then all stores
abbrev pub unrolled_processes : Rates → List Process
unrolled_processes rho = flat_map (jobs rho) (below (length rho.processes)) ++ flat_map (stores rho) rho.messages

-- the links and the messages
abbrev pub unrolled_links : Rates → List Link
unrolled_links rho = flat_map (links_of rho) rho.links

abbrev pub unrolled_messages : Rates → List Message
unrolled_messages rho = flat_map (messages_of rho) (below (length rho.messages))

-- one cycle, within its whole rounds
abbrev pub unrolled : Rates → Instance
unrolled rho = instance_with (bus_for rho.cluster (horizon_of rho)) (map unrolled_node rho.nodes) (unrolled_processes rho)
    (unrolled_links rho) (unrolled_messages rho)
