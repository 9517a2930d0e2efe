-- What it means that a plan may begin anew each period, for ever.
use Rattle.std.specs.Prelude.{◌≡◌, ◌≢◌, ◌⊎◌, ℕ, ◌+◌, ◌*◌, ◌<◌, ◌≤◌, Contains, length, slice_index}
use Rattle.ttp_model.specs.declared.plan.Plan.{Plan}
use Rattle.ttp_model.specs.Lists.{EachBelow}
use Rattle.ttp_model.specs.Instance.{Instance, message_at, node_of, source_of}
use Rattle.ttp_model.specs.Plans.{round_of, start_of}
use Rattle.guardian_windows.specs.Windows.{frame_end}
use Rattle.guardian_windows.specs.Clocks.{AreSynchronized, IsGuardianOpen, NodeClock, Readings}
use Rattle.plan_cycles.specs.Cycles.{CycleSlot, Execution, IsCycleSlot, IsExecution, closes_at, ends_at, opens_at, starts_at}
use Rattle.plan_cycles.specs.Frames.{frame_bytes}
use Rattle.plan_cycles.specs.Guards.{IsSendingIn, window_at}

-- of two executions on one node, of whatever cycles, one ends before the other starts
abbrev pub AreExecutionsApart : ℕ → Instance → Plan → Type 0
AreExecutionsApart period i plan =
    (e f : Execution) → IsExecution i e → IsExecution i f → node_of i e.process ≡ node_of i f.process → e ≢ f
    → (ends_at period i plan e ≤ starts_at period plan f) ⊎ (ends_at period i plan f ≤ starts_at period plan e)

-- The rest is said of so many rounds in each cycle. Of two slots, of whatever nodes and cycles, one ends before the other begins
abbrev pub AreSlotsApart : ℕ → ℕ → Instance → Plan → Type 0
AreSlotsApart period rounds i plan =
    (s t : CycleSlot) → IsCycleSlot rounds i s → IsCycleSlot rounds i t → s ≢ t
    → (closes_at period i plan s ≤ opens_at period i plan t) ⊎ (closes_at period i plan t ≤ opens_at period i plan s)

-- each message is sent in one of these rounds
abbrev pub AreSentInside : ℕ → Instance → Plan → Type 0
AreSentInside rounds i plan = EachBelow (length i.messages) (λ m. round_of plan m < rounds)

-- no frame of any cycle is overfull on any channel, however many cycles are counted
abbrev pub HoldAllFrames : ℕ → ℕ → Instance → Plan → Type 0
HoldAllFrames period rounds i plan =
    (s : CycleSlot) (k cycles : ℕ) → IsCycleSlot rounds i s → k < i.cluster.channels → frame_bytes period i plan s k cycles ≤ slice_index plan.caps s.node

-- whatever synchronized clocks read: while a node sends its frame, the window of that slot is open
abbrev pub AdmitAllFrames : ℕ → ℕ → Instance → Plan → Type 0
AdmitAllFrames period rounds i plan =
    (reading : Readings) (s : CycleSlot) → AreSynchronized i.cluster.precision reading → IsCycleSlot rounds i s
    → IsSendingIn period i plan reading s → IsGuardianOpen reading (window_at period i plan s)

-- whatever synchronized clocks read: the windows of no two slots are open
abbrev pub AreNeverOpenAtOnce : ℕ → ℕ → Instance → Plan → Type 0
AreNeverOpenAtOnce period rounds i plan =
    (reading : Readings) (s t : CycleSlot) → AreSynchronized i.cluster.precision reading → IsCycleSlot rounds i s → IsCycleSlot rounds i t → s ≢ t
    → ¬ (IsGuardianOpen reading (window_at period i plan s) × IsGuardianOpen reading (window_at period i plan t))

-- A plan may begin anew each period for ever, with so many rounds in each cycle.
pub record RepeatsForEver (period rounds : ℕ) (i : Instance) (plan : Plan) : Type 0 where
  pub executions : AreExecutionsApart period i plan
  pub slots : AreSlotsApart period rounds i plan
  pub sent : AreSentInside rounds i plan
  pub frames : HoldAllFrames period rounds i plan
  pub admitted : AdmitAllFrames period rounds i plan
  pub guarded : AreNeverOpenAtOnce period rounds i plan

-- By its own clock no process starts before what it reads has left the bus. Whatever synchronized clocks read: once the receiver's node
-- reads its start in cycle c, the sender's node reads the end of the message's frame of that cycle, or later
abbrev pub StartBehindFrames : ℕ → Instance → Plan → Type 0
StartBehindFrames period i plan =
    (reading : Readings) (c m q : ℕ) → AreSynchronized i.cluster.precision reading → m < length i.messages → Contains (message_at i m).receivers q
    → c * period + start_of plan q ≤ reading (NodeClock (node_of i q))
    → c * period + frame_end i plan (source_of i m) (round_of plan m) ≤ reading (NodeClock (source_of i m))
