-- Where lines end is within any horizon, and a later tick is not more to the left.
use Rattle.std.proofs.Common.{ℕ, ◌+◌, ◌*◌, ◌/◌, ◌<◌, ◌≤◌, length, slice_index, arith}
use Rattle.std.proofs.lemmas.Grind.{div_ceil_times}
use Rattle.std.proofs.lemmas.Nat.{div-add-mod', le-div, mul-le}
use Rattle.ttp_model.specs.declared.limits.TheConstants.{MOST_TICKS}
use Rattle.ttp_model.specs.declared.plan.Plan.{Plan}
use Rattle.ttp_model.specs.declared.error.Place.TheVariants.{AtCluster, AtMessage, AtProcess}
use Rattle.ttp_model.specs.Instance.{Instance, message_at}
use Rattle.ttp_model.specs.Rules.{IsInstance}
use Rattle.ttp_model.specs.Delays.{delay}
use Rattle.ttp_model.specs.Slots.{round_length}
use Rattle.ttp_model.proofs.ValidPlans.{greatest_each}
use Rattle.ttp_model.specs.Plans.{IsValid, end_of, sent_from, sent_until, start_of}
use Rattle.plan_sheets.specs.declared.pictures.canvas.Canvas.{Canvas}
use Rattle.plan_sheets.specs.declared.pictures.canvas.TheConstants.{MOST_CYCLE}
use Rattle.plan_sheets.specs.Limits.{most_width}
use Rattle.plan_sheets.specs.Canvas.{cycle_ticks, place_of}
use Rattle.plan_sheets.specs.Deadlines.{due_line}
use Rattle.plan_sheets.specs.DeliveryLines.{IsNear, delivery_of, sending_of}

pub div-mono : (m n k : ℕ) → 0 < k → m ≤ n → m / k ≤ n / k
div-mono m n k some le = le-div (m / k) n k some (omega (arith, div-add-mod' m k, le))

-- a later tick is not more to the left
pub place-mono : (c : Canvas) (a b : ℕ) → 0 < c.cycle → a ≤ b → place_of c a ≤ place_of c b
place-mono c a b some le =
    let product : a * (10 * c.across) ≤ b * (10 * c.across) = mul-le a (10 * c.across) b (10 * c.across) le (omega arith) in
    omega (arith, div-mono (a * (10 * c.across)) (b * (10 * c.across)) c.cycle some product)

-- a product of a tick and ten times a width fits
pub product-fits : (tick across : ℕ) → tick ≤ MOST_CYCLE → across ≤ most_width → tick * (10 * across) ≤ 10000000000000000000
product-fits tick across short narrow = omega (arith, mul-le tick (10 * across) MOST_CYCLE 100000 short (omega (arith, narrow)))

-- each mark is within the cycle
pub mark-inside : (cycle step k : ℕ) → k < cycle / step + 1 → k * step ≤ cycle
mark-inside cycle step k below =
    omega (arith, mul-le k step (cycle / step) step (omega (arith, below)) (omega arith), div-add-mod' cycle step)

-- a cycle has a tick, since some process runs
pub cycle-some : (i : Instance) (plan : Plan) → IsInstance i → 0 < round_length i.cluster plan.caps → 0 < cycle_ticks i plan
cycle-some i plan wi some =
    let first : 0 < length i.processes = omega (arith, wi.limits.processes_least) in
    let end : end_of i plan 0 ≤ delay i plan = greatest_each (end_of i plan) (length i.processes) 0 first in
    let times : delay i plan ≤ cycle_ticks i plan = (div_ceil_times (delay i plan) (round_length i.cluster plan.caps) some).0 in
    omega (arith, times, end, (wi.ranges (AtProcess 0) first).wcet_least)

-- a deadline is within any horizon
pub due-near : (row due : ℕ) → due ≤ MOST_TICKS → IsNear (due_line row due)
due-near row due most = record { from = most; to = most }

module _ (i : Instance) (plan : Plan) (wi : IsInstance i) (w : IsValid i plan) where
  pub end-near : (p : ℕ) → p < length i.processes → end_of i plan p ≤ MOST_TICKS
  end-near p inside = omega (arith, (w.in_time p inside).1, (wi.ranges AtCluster).horizon)

  pub start-near : (p : ℕ) → p < length i.processes → start_of plan p ≤ MOST_TICKS
  start-near p inside = omega (arith, end-near p inside)

  pub until-near : (m : ℕ) → m < length i.messages → sent_until i plan m ≤ MOST_TICKS
  until-near m inside =
      let some = wi.receivers m inside in
      let there : slice_index (message_at i m).receivers 0 < length i.processes = (wi.indices (AtMessage m) inside).1 0 0 some in
      omega (arith, w.arrived m inside 0 some, start-near (slice_index (message_at i m).receivers 0) there)

  pub from-near : (m : ℕ) → m < length i.messages → sent_from i plan m ≤ MOST_TICKS
  from-near m inside = omega (arith, until-near m inside)

  pub sending-near : (m : ℕ) → m < length i.messages → IsNear (sending_of i plan m)
  sending-near m inside = record {
    from = end-near (message_at i m).sender (wi.indices (AtMessage m) inside).0;
    to = from-near m inside;
  }

  pub delivery-near : (m q : ℕ) → m < length i.messages → q < length i.processes → IsNear (delivery_of i plan m q)
  delivery-near m q inside there = record { from = until-near m inside; to = start-near q there }
