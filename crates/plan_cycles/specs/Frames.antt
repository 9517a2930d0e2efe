-- What the frames of all cycles carry, told by the ticks of their slots alone.
use Rattle.std.specs.Prelude.{ℕ, ◌+◌, ◌*◌, ◌==◌, ◌&&◌, if◌then◌else◌, length}
use Rattle.ttp_model.specs.declared.plan.Plan.{Plan}
use Rattle.ttp_model.specs.Instance.{Instance, message_at, source_of}
use Rattle.ttp_model.specs.Plans.{channel_of, is_on, sent_from}
use Rattle.ttp_model.specs.Totals.{total}
use Rattle.plan_cycles.specs.Cycles.{CycleSlot, opens_at}

-- when the slot begins in which message m of cycle c is sent
abbrev pub sent_at : ℕ → Instance → Plan → ℕ → ℕ → ℕ
sent_at period i plan c m = c * period + sent_from i plan m

-- the bytes that message m of cycle c puts into a slot's frame on channel k: all of them where its node has that slot and sends it
-- there when the slot begins
abbrev pub bytes_at : ℕ → Instance → Plan → CycleSlot → ℕ → ℕ → ℕ → ℕ
bytes_at period i plan s k c m =
    if is_on k (channel_of plan m) then (if source_of i m == s.node && sent_at period i plan c m == opens_at period i plan s then (message_at i m).bytes else 0) else 0

-- the bytes of all messages of cycle c
abbrev pub cycle_bytes : ℕ → Instance → Plan → CycleSlot → ℕ → ℕ → ℕ
cycle_bytes period i plan s k c = total (bytes_at period i plan s k c) (length i.messages)

-- the bytes of all messages of the first cycles, so many
abbrev pub frame_bytes : ℕ → Instance → Plan → CycleSlot → ℕ → ℕ → ℕ
frame_bytes period i plan s k cycles = total (cycle_bytes period i plan s k) cycles
