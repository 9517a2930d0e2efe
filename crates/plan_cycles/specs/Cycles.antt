-- When things happen in a plan that begins anew each period, in ticks from the start of the first cycle, cycle 0.
use Rattle.std.specs.Prelude.{ℕ, ◌+◌, ◌*◌, ◌/◌, ◌<◌, length}
use Rattle.ttp_model.specs.declared.plan.Plan.{Plan}
use Rattle.ttp_model.specs.Instance.{Instance}
use Rattle.ttp_model.specs.Slots.{round_length, slot_end, slot_start}
use Rattle.ttp_model.specs.Plans.{end_of, start_of}

-- how many whole rounds a period holds; behind the last of them the bus is silent until the next cycle begins
abbrev pub whole_rounds : ℕ → Instance → Plan → ℕ
whole_rounds period i plan = period / round_length i.cluster plan.caps

-- a process runs once in each cycle
pub record Execution : Type 0 where
  pub cycle : ℕ
  pub process : ℕ

-- that of a process that is there
abbrev pub IsExecution : Instance → Execution → Type 0
IsExecution i e = e.process < length i.processes

-- when it starts
abbrev pub starts_at : ℕ → Plan → Execution → ℕ
starts_at period plan e = e.cycle * period + start_of plan e.process

-- when it ends
abbrev pub ends_at : ℕ → Instance → Plan → Execution → ℕ
ends_at period i plan e = e.cycle * period + end_of i plan e.process

-- a node has a slot in each round of each cycle
pub record CycleSlot : Type 0 where
  pub cycle : ℕ
  pub round : ℕ
  pub node : ℕ

-- that of a node that is there, in one of so many rounds
pub record IsCycleSlot (rounds : ℕ) (i : Instance) (s : CycleSlot) : Type 0 where
  pub round : s.round < rounds
  pub node : s.node < length i.nodes

-- when it begins
abbrev pub opens_at : ℕ → Instance → Plan → CycleSlot → ℕ
opens_at period i plan s = s.cycle * period + slot_start i.cluster plan.order plan.caps s.node s.round

-- when it ends
abbrev pub closes_at : ℕ → Instance → Plan → CycleSlot → ℕ
closes_at period i plan s = s.cycle * period + slot_end i.cluster plan.order plan.caps s.node s.round
