-- Rounds and cycles of a valid plan within a period.
use Rattle.std.proofs.Common.{ℕ, suc, ◌+◌, ◌*◌, ◌<◌, ◌≤◌, length, slice_index, arith, inl, inr}
use Rattle.std.proofs.Math.Nat.{mul-le-mul_left}
use Rattle.std.proofs.lemmas.Bool.{cases_lt}
use Rattle.std.proofs.lemmas.Grind.{div_ceil_times}
use Rattle.ttp_model.specs.declared.error.Place.TheVariants.{AtCluster, AtProcess}
use Rattle.ttp_model.specs.declared.plan.Plan.{Plan}
use Rattle.ttp_model.specs.Instance.{Instance, message_at}
use Rattle.ttp_model.specs.Rules.{IsInstance}
use Rattle.ttp_model.specs.Slots.{round_length}
use Rattle.ttp_model.specs.Plans.{IsValid, end_of, round_of}
use Rattle.ttp_model.specs.Delays.{delay}
use Rattle.ttp_model.proofs.PlanNumbers.{receiver_inside, some_caps}
use Rattle.ttp_model.proofs.Times.{round_length-positive}
use Rattle.ttp_model.proofs.ValidPlans.{greatest_each}
use Rattle.tt_layout.specs.Cycle.{cycle_rounds}

-- what is over within a period of its cycle is over before any later cycle begins
pub earlier_cycle : (period c d ticks : ℕ) → ticks ≤ period → c < d → c * period + ticks ≤ d * period
earlier_cycle period c d ticks fits earlier =
    let next : period * suc c ≤ period * d = mul-le-mul_left period earlier in
    omega (arith, next, fits)

-- rounds that take fewer ticks are fewer
pub fewer_rounds : (r k round : ℕ) → r * round < k * round → r < k
fewer_rounds r k round less = elim (cases_lt r k) [
  | inl below ↦ below
  | inr above ↦ (let more : round * k ≤ round * r = mul-le-mul_left round above in absurd (omega (arith, less, more)))
]

module _ (i : Instance) (plan : Plan) (w : IsInstance i) (v : IsValid i plan) where
  pub round_some : 0 < round_length i.cluster plan.caps
  round_some = round_length-positive i.cluster plan.caps (w.ranges AtCluster) (some_caps i plan w v)

  -- the rounds of the cycle hold the delay
  pub delay-le-cycle : delay i plan ≤ cycle_rounds i plan * round_length i.cluster plan.caps
  delay-le-cycle = (div_ceil_times (delay i plan) (round_length i.cluster plan.caps) round_some).0

  -- the cycle has a round, since a process runs
  pub cycle_some : 0 < cycle_rounds i plan
  cycle_some =
      let some = w.limits.processes_least in
      let first = greatest_each (end_of i plan) (length i.processes) 0 some in
      fewer_rounds 0 (cycle_rounds i plan) (round_length i.cluster plan.caps) (omega (arith, first, (w.ranges (AtProcess 0) some).wcet_least, delay-le-cycle))

  -- a message's slot ends before some receiver does, so its round is one of the cycle
  pub round_inside : (m : ℕ) → m < length i.messages → round_of plan m < cycle_rounds i plan
  round_inside m inside =
      let some = w.receivers m inside in
      let q = slice_index (message_at i m).receivers 0 in
      let there = receiver_inside i plan w v m 0 inside some in
      let last = greatest_each (end_of i plan) (length i.processes) q there in
      let early : round_of plan m * round_length i.cluster plan.caps < delay i plan = omega (arith, v.arrived m inside 0 some, last, (w.ranges (AtProcess q) there).wcet_least) in
      fewer_rounds (round_of plan m) (cycle_rounds i plan) (round_length i.cluster plan.caps) (omega (arith, early, delay-le-cycle))

  -- so each process ends within as many rounds, and more
  pub ends_within : (rounds p : ℕ) → cycle_rounds i plan ≤ rounds → p < length i.processes → end_of i plan p ≤ rounds * round_length i.cluster plan.caps
  ends_within rounds p enough inside =
      let last = greatest_each (end_of i plan) (length i.processes) p inside in
      let more : round_length i.cluster plan.caps * cycle_rounds i plan ≤ round_length i.cluster plan.caps * rounds = mul-le-mul_left (round_length i.cluster plan.caps) enough in
      omega (arith, last, delay-le-cycle, more)
