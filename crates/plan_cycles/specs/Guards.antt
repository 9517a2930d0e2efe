-- What the guardians of all cycles let on the bus, whatever the clocks read.
use Rattle.std.specs.Prelude.{ℕ, ◌+◌, ◌*◌, ◌<◌, ◌≤◌}
use Rattle.ttp_model.specs.declared.plan.Plan.{Plan}
use Rattle.ttp_model.specs.Instance.{Instance}
use Rattle.guardian_windows.specs.declared.window.Window.{Window}
use Rattle.guardian_windows.specs.Windows.{frame_end, frame_start, window_of}
use Rattle.guardian_windows.specs.Clocks.{NodeClock, Readings}
use Rattle.plan_cycles.specs.Cycles.{CycleSlot}

-- the window of a slot, by the guardian's clock: that of the first cycle, so many periods later
abbrev pub window_at : ℕ → Instance → Plan → CycleSlot → Window
window_at period i plan s = record {
  round = s.round;
  node = s.node;
  from = s.cycle * period + (window_of i plan s.round s.node).from;
  until = s.cycle * period + (window_of i plan s.round s.node).until;
}

-- by its own clock, the node of a slot has its frame on the bus
pub record IsSendingIn (period : ℕ) (i : Instance) (plan : Plan) (reading : Readings) (s : CycleSlot) : Type 0 where
  pub begun : s.cycle * period + frame_start i plan s.node s.round ≤ reading (NodeClock s.node)
  pub not_over : reading (NodeClock s.node) < s.cycle * period + frame_end i plan s.node s.round
