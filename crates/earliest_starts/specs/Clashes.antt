-- Why a complete choice has no valid plan. Own profile.
use Rattle.std.specs.Prelude.{ℕ, ◌+◌, ◌-◌, ◌<◌, ◌≤◌, ◌⊎◌, List, length, slice_index, Contains}
use Rattle.ttp_model.specs.Instance.{Instance, process_at, message_at}
use Rattle.ttp_model.specs.Totals.{total}
use Rattle.tt_choice.specs.Choice.{Choice}
use Rattle.earliest_starts.specs.Fixed.{fixed_caps, sends_from, sends_until, GoesAhead, fixed_bytes}
use Rattle.earliest_starts.specs.declared.clash.Clash.{Clash}
use Rattle.earliest_starts.specs.declared.clash.Clash.TheVariants.{Cycle, Round, Window, Frame}

-- A chain of reasons that process p can't start before a time: its release, the arrival of a
-- message, or the end of a process that goes ahead, which has reasons of its own.
pub data WaitsUntil (i : Instance) (c : Choice) : ℕ → ℕ → Type 0 where
  released : (p : ℕ) → p < length i.processes → WaitsUntil i c p (process_at i p).release
  arrived : (m p : ℕ) → m < length i.messages → Contains (message_at i m).receivers p
      → WaitsUntil i c p (sends_until i c m + i.cluster.copy_in)
  after : (p q time : ℕ) → WaitsUntil i c p time → GoesAhead i c p q
      → WaitsUntil i c q (time + (process_at i p).wcet)

-- each process goes ahead of the next, and the last of the first
pub record IsWaitingRing (i : Instance) (c : Choice) (ps : List ℕ) : Type 0 where
  pub two : 2 ≤ length ps
  pub each : (k : ℕ) → k + 1 < length ps → GoesAhead i c (slice_index ps k) (slice_index ps (k + 1))
  pub closes : GoesAhead i c (slice_index ps (length ps - 1)) (slice_index ps 0)

-- the slot of message m begins before its sender has ended and the message was copied out
pub record MissesSlot (i : Instance) (c : Choice) (m : ℕ) : Type 0 where
  pub message : m < length i.messages
  pub time : ℕ
  pub waits : WaitsUntil i c (message_at i m).sender time
  pub late :
      sends_from i c m < time + (process_at i (message_at i m).sender).wcet + i.cluster.copy_out

-- process p can't end by its deadline and within the horizon
pub record MissesWindow (i : Instance) (c : Choice) (p : ℕ) : Type 0 where
  pub process : p < length i.processes
  pub time : ℕ
  pub waits : WaitsUntil i c p time
  pub late :
      ((process_at i p).deadline < time + (process_at i p).wcet)
      ⊎ (i.cluster.horizon < time + (process_at i p).wcet)

-- the messages of node n's frame in round r don't fit into its capacity on channel k
pub record IsOverfull (i : Instance) (c : Choice) (n r k : ℕ) : Type 0 where
  pub node : n < length i.nodes
  pub channel : k < i.cluster.channels
  pub over : slice_index (fixed_caps c) n < total (fixed_bytes i c n r k) (length i.messages)

-- what a clash says of the choice
abbrev pub IsClash : Instance → Choice → Clash → Type 0
IsClash i c (Cycle ps) = IsWaitingRing i c ps
IsClash i c (Round m) = MissesSlot i c m
IsClash i c (Window p) = MissesWindow i c p
IsClash i c (Frame n r k) = IsOverfull i c n r k
