-- What starts, by its own node's clock, once what it takes has left the bus by the sender's.
use Rattle.std.specs.Prelude.{◌≡◌, ◌≢◌, ℕ, ◌+◌, ◌≤◌, slice_index}
use Rattle.ttp_model.specs.declared.plan.Plan.{Plan}
use Rattle.ttp_model.specs.Slots.{frame_length}
use Rattle.rates_model.specs.Rates.{Rates, node_of}
use Rattle.endless_schedules.specs.Runs.{IsRun, Job, Store, home_of, starts_at}
use Rattle.endless_schedules.specs.Sent.{bus_of, sender_node, sent_from}
use Rattle.endless_schedules.specs.Endless.{Receives}

-- what the clocks of all nodes read at one moment: any two differ by at most the precision
abbrev pub AreClose : ℕ → (ℕ → ℕ) → Type 0
AreClose precision reading = (a b : ℕ) → reading a ≤ reading b + precision

-- when the frame with what a job makes in a cycle is over, by its sender's clock
abbrev pub left_at : Rates → Plan → ℕ → ℕ → ℕ → ℕ
left_at rho plan c m k = sent_from rho plan c m k + rho.cluster.lead + frame_length (bus_of rho) (slice_index plan.caps (sender_node rho m))

-- by its own clock no job starts before what it reads of its cycle has left the bus
abbrev pub StartBehindFrames : Rates → Plan → Type 0
StartBehindFrames rho plan =
    (reading : ℕ → ℕ) (m q c j k : ℕ) → AreClose rho.cluster.precision reading → Receives rho m q c j c k
    → starts_at rho plan c (Job q j) ≤ reading (node_of rho q) → left_at rho plan c m k ≤ reading (sender_node rho m)

-- and no store begins before what it keeps for the next cycle has
abbrev pub StoreBehindFrames : Rates → Plan → Type 0
StoreBehindFrames rho plan =
    (reading : ℕ → ℕ) (m q c j d k place : ℕ) → AreClose rho.cluster.precision reading → Receives rho m q c j d k → c ≢ d
    → IsRun rho (Store m place) → home_of rho (Store m place) ≡ node_of rho q
    → starts_at rho plan d (Store m place) ≤ reading (home_of rho (Store m place)) → left_at rho plan d m k ≤ reading (sender_node rho m)
