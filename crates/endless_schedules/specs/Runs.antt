-- What runs in each cycle of a cluster of several rates, and when, in ticks from the begin of the first cycle, cycle 0.
use Rattle.std.specs.Prelude.{ℕ, ◌+◌, ◌*◌, ◌<◌, length, slice_index}
use Rattle.ttp_model.specs.declared.plan.Plan.{Plan}
use Rattle.rates_model.specs.Rates.{Rates, message_at, node_of, process_at}
use Rattle.rates_model.specs.Cycles.{cycle, jobs_of}
use Rattle.endless_schedules.specs.Stores.{first_store, job_index, storing_nodes}

-- a job of a process; or the store of a message, at one of the nodes that store it
pub data Run : Type 0 where
  Job : ℕ → ℕ → Run
  Store : ℕ → ℕ → Run

-- one that is there
abbrev pub IsRun : Rates → Run → Type 0
IsRun rho (Job p k) = (p < length rho.processes) × (k < jobs_of rho p)
IsRun rho (Store m place) = (m < length rho.messages) × (place < length (storing_nodes rho (message_at rho m)))

-- its place among the starts of a plan
abbrev pub place_of : Rates → Run → ℕ
place_of rho (Job p k) = job_index rho p k
place_of rho (Store m place) = first_store rho m + place

-- the node that it runs on
abbrev pub home_of : Rates → Run → ℕ
home_of rho (Job p k) = node_of rho p
home_of rho (Store m place) = slice_index (storing_nodes rho (message_at rho m)) place

-- how many ticks it takes
abbrev pub ticks_of : Rates → Run → ℕ
ticks_of rho (Job p k) = (process_at rho p).wcet
ticks_of rho (Store m place) = rho.cluster.store

-- when it starts in a cycle
abbrev pub starts_at : Rates → Plan → ℕ → Run → ℕ
starts_at rho plan c run = c * cycle rho + slice_index plan.starts (place_of rho run)

-- when it ends
abbrev pub ends_at : Rates → Plan → ℕ → Run → ℕ
ends_at rho plan c run = starts_at rho plan c run + ticks_of rho run
