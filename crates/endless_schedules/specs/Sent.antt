-- In which slots messages are sent in all cycles of a cluster of several rates, and what their frames carry, told by ticks alone.
use Rattle.std.specs.Prelude.{ℕ, ◌+◌, ◌*◌, ◌==◌, ◌&&◌, if◌then◌else◌, length, slice_index}
use Rattle.ttp_model.specs.declared.parts.Cluster.{Cluster}
use Rattle.ttp_model.specs.declared.plan.Plan.{Plan}
use Rattle.ttp_model.specs.Plans.{is_on}
use Rattle.ttp_model.specs.Slots.{slot_end, slot_start}
use Rattle.ttp_model.specs.Totals.{total}
use Rattle.rates_model.specs.Rates.{Rates, message_at, node_of}
use Rattle.rates_model.specs.Cycles.{bus_for, cycle, horizon_of, jobs_of}
use Rattle.endless_schedules.specs.Unrolled.{readers}

-- the bus of the cluster
abbrev pub bus_of : Rates → Cluster
bus_of rho = bus_for rho.cluster (horizon_of rho)

-- how many jobs the sender of a message has in a cycle
abbrev pub sender_jobs : Rates → ℕ → ℕ
sender_jobs rho m = jobs_of rho (message_at rho m).sender

-- the node that it is sent from
abbrev pub sender_node : Rates → ℕ → ℕ
sender_node rho m = node_of rho (message_at rho m).sender

-- how many messages are sent of what job k of its sender makes: one where some job reads it, in this cycle or the next
abbrev pub sends : Rates → ℕ → ℕ → ℕ
sends rho m k = if length (readers rho m k) == 0 then 0 else 1

-- the place of that one among the rounds and channels of a plan: behind those of messages and jobs before
unfoldable pub sent_place : Rates → ℕ → ℕ → ℕ
sent_place rho m k = total (λ x. total (sends rho x) (sender_jobs rho x)) m + total (sends rho m) k

-- its round
abbrev pub sent_round : Rates → Plan → ℕ → ℕ → ℕ
sent_round rho plan m k = slice_index plan.rounds (sent_place rho m k)

-- and the number of its channel
abbrev pub sent_channel : Rates → Plan → ℕ → ℕ → ℕ
sent_channel rho plan m k = slice_index plan.channels (sent_place rho m k)

-- when the slot of a node begins, of a round of a cycle
abbrev pub opens_at : Rates → Plan → ℕ → ℕ → ℕ → ℕ
opens_at rho plan c n r = c * cycle rho + slot_start (bus_of rho) plan.order plan.caps n r

-- when it ends
abbrev pub closes_at : Rates → Plan → ℕ → ℕ → ℕ → ℕ
closes_at rho plan c n r = c * cycle rho + slot_end (bus_of rho) plan.order plan.caps n r

-- when the slot begins in which a message is sent, of what a job makes in a cycle
abbrev pub sent_from : Rates → Plan → ℕ → ℕ → ℕ → ℕ
sent_from rho plan c m k = opens_at rho plan c (sender_node rho m) (sent_round rho plan m k)

-- when it ends
abbrev pub sent_until : Rates → Plan → ℕ → ℕ → ℕ → ℕ
sent_until rho plan c m k = closes_at rho plan c (sender_node rho m) (sent_round rho plan m k)

-- the bytes that what a job makes in a cycle puts into the frame of a node's slot that begins at this tick, on a channel
abbrev pub job_bytes : Rates → Plan → ℕ → ℕ → ℕ → ℕ → ℕ → ℕ → ℕ
job_bytes rho plan n tick channel c m k =
    if length (readers rho m k) == 0 then 0
    else (if is_on channel (sent_channel rho plan m k) then (if sender_node rho m == n && sent_from rho plan c m k == tick then (message_at rho m).bytes else 0) else 0)

-- the bytes of all that is sent in a cycle
abbrev pub cycle_bytes : Rates → Plan → ℕ → ℕ → ℕ → ℕ → ℕ
cycle_bytes rho plan n tick channel c = total (λ m. total (job_bytes rho plan n tick channel c m) (sender_jobs rho m)) (length rho.messages)

-- and in the first cycles, so many
abbrev pub frame_bytes : Rates → Plan → ℕ → ℕ → ℕ → ℕ → ℕ
frame_bytes rho plan n tick channel cycles = total (cycle_bytes rho plan n tick channel) cycles
