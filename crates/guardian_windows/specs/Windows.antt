-- The guardian's window of each slot of the cycle, in ticks. Own profile: guardians are named after those of
-- TTP (SAE AS6003), and defined here alone.
use Rattle.std.specs.Prelude.{ℕ, ◌+◌, ◌-◌, ◌<◌, ◌≤◌, List, map, slice_index}
use Rattle.std.specs.List.{flat_map, range_with_len}
use Rattle.ttp_model.specs.declared.plan.Plan.{Plan}
use Rattle.ttp_model.specs.Instance.{Instance}
use Rattle.ttp_model.specs.Slots.{frame_length, slot_start}
use Rattle.tt_layout.specs.Cycle.{cycle_rounds}
use Rattle.guardian_windows.specs.declared.window.Window.{Window}

-- when the frame of node n in round r begins on the bus, by its sender's clock
abbrev pub frame_start : Instance → Plan → ℕ → ℕ → ℕ
frame_start i plan n r = slot_start i.cluster plan.order plan.caps n r + i.cluster.lead

-- the first tick after it
abbrev pub frame_end : Instance → Plan → ℕ → ℕ → ℕ
frame_end i plan n r = frame_start i plan n r + frame_length i.cluster (slice_index plan.caps n)

-- the window of that slot, by the guardian's clock: the frame, with the precision before and after it
abbrev pub window_of : Instance → Plan → ℕ → ℕ → Window
window_of i plan r n = record {
  round = r;
  node = n;
  from = frame_start i plan n r - i.cluster.precision;
  until = frame_end i plan n r + i.cluster.precision;
}

-- the windows of a round, one for each slot, in the order of the slots
abbrev pub round_windows : Instance → Plan → ℕ → List Window
round_windows i plan r = map (window_of i plan r) plan.order

-- the windows of the cycle, round by round
abbrev pub cycle_windows : Instance → Plan → List Window
cycle_windows i plan = flat_map (round_windows i plan) (range_with_len 0 (cycle_rounds i plan))

-- the window lets a frame on the bus at this time of its guardian's clock
abbrev pub Permits : Window → ℕ → Type 0
Permits window time = (window.from ≤ time) × (time < window.until)
