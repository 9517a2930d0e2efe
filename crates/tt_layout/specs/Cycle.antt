-- The cycle of rounds that a plan repeats (Pop, Eles and Peng, CODES 1999: several rounds form a cycle).
use Rattle.std.specs.Prelude.{ℕ}
use Rattle.std.specs.Int.{div_ceil}
use Rattle.ttp_model.specs.declared.plan.Plan.{Plan}
use Rattle.ttp_model.specs.Instance.{Instance}
use Rattle.ttp_model.specs.Delays.{delay}
use Rattle.ttp_model.specs.Slots.{round_length}

-- how many rounds a cycle has: the delay in rounds, rounded up
abbrev pub cycle_rounds : Instance → Plan → ℕ
cycle_rounds i plan = div_ceil (delay i plan) (round_length i.cluster plan.caps)
