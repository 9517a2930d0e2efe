-- What the clocks of a cluster read at one moment, and what windows do then. Own profile.
use Rattle.std.specs.Prelude.{ℕ, ◌+◌, ◌<◌, ◌≤◌, List, All, AllPairs}
use Rattle.ttp_model.specs.declared.plan.Plan.{Plan}
use Rattle.ttp_model.specs.Instance.{Instance}
use Rattle.guardian_windows.specs.declared.window.Window.{Window}
use Rattle.guardian_windows.specs.Windows.{Permits, frame_start, frame_end}

-- the clocks: each node has one, and its guardian another
pub data Clock : Type 0 where
  NodeClock : ℕ → Clock
  GuardianClock : ℕ → Clock

-- what each clock reads, in ticks
abbrev pub Readings : Type 0
Readings = Clock → ℕ

-- any two clocks differ by at most the precision
abbrev pub AreSynchronized : ℕ → Readings → Type 0
AreSynchronized precision reading = (a b : Clock) → reading a ≤ reading b + precision

-- by its own clock, the sender of the window's slot has its frame on the bus
abbrev pub IsSending : Instance → Plan → Readings → Window → Type 0
IsSending i plan reading w =
    (frame_start i plan w.node w.round ≤ reading (NodeClock w.node)) × (reading (NodeClock w.node) < frame_end i plan w.node w.round)

-- by its own clock, the node's guardian is inside the window
abbrev pub IsGuardianOpen : Readings → Window → Type 0
IsGuardianOpen reading w = Permits w (reading (GuardianClock w.node))

-- whatever synchronized clocks read: while a node sends its frame, the window of that slot is open
abbrev pub AdmitFrames : Instance → Plan → List Window → Type 0
AdmitFrames i plan windows =
    (reading : Readings) → AreSynchronized i.cluster.precision reading → All (λ w. IsSending i plan reading w → IsGuardianOpen reading w) windows

-- whatever synchronized clocks read: the windows of no two slots are open
abbrev pub AreNeverOpenTogether : ℕ → List Window → Type 0
AreNeverOpenTogether precision windows =
    (reading : Readings) → AreSynchronized precision reading → AllPairs (λ v w. ¬ (IsGuardianOpen reading v × IsGuardianOpen reading w)) windows
