-- Messages of valid plans of a choice: their processes are there, and their slots and frames lie between the choice's extremes.
use Rattle.std.proofs.Common.{◌≡◌, ℕ, ◌+◌, ◌<◌, ◌≤◌, length, slice_index, arith, ◌∙◌, sym, ap}
use Rattle.std.proofs.lemmas.Grind.{get_or_default_zero}
use Rattle.std.proofs.lemmas.List.Elements.{All-contains}
use Rattle.ttp_model.specs.declared.plan.Plan.{Plan}
use Rattle.ttp_model.specs.declared.error.Place.TheVariants.{AtProcess, AtMessage}
use Rattle.ttp_model.specs.Instance.{Instance, message_at, source_of}
use Rattle.ttp_model.specs.Rules.{IsInstance, IsProcess}
use Rattle.ttp_model.specs.Plans.{IsValid, HasArrived, start_of, round_of, sent_from, sent_until}
use Rattle.tt_choice.specs.Choice.{Choice, IsChoice, IsIn, Agrees}
use Rattle.tt_choice.specs.Extremes.{start_most, end_least, dur_least, cap_most}
use Rattle.tt_choice.proofs.Bounds.{start_between, end_between, duration_between, capacity_between}
use Rattle.sought_plans.specs.Known.{IsSought}
use Rattle.sought_plans.specs.Premises.{GoesTo, sender_of}

pub sender_is : (i : Instance) (m : ℕ) → IsInstance i → m < length i.messages → sender_of i m < length i.processes
sender_is i m w h = (w.indices (AtMessage m) h).0

pub source_is : (i : Instance) (m : ℕ) → IsInstance i → m < length i.messages → source_of i m < length i.nodes
source_is i m w h = w.indices (AtProcess (sender_of i m)) (sender_is i m w h)

pub receiver_is : (i : Instance) (m q : ℕ) → IsInstance i → GoesTo i m q → q < length i.processes
receiver_is i m q w is = All-contains (IsProcess i) _ _ (w.indices (AtMessage m) is.0).1 is.1

-- a message comes to its receiver before it starts
pub comes : (i : Instance) (plan : Plan) (m q : ℕ) → IsValid i plan → GoesTo i m q → HasArrived i plan m q
comes i plan m q v is =
    let place = is.1.0 in
    let here : slice_index (message_at i m).receivers place ≡ q = sym (get_or_default_zero (message_at i m).receivers place q is.1.1) ∙ is.1.2 in
    omega (arith, v.arrived m is.0 place is.1.1, ap (start_of plan) here)

-- a plan of a choice has an order and capacities that agree with it
pub agrees : (i : Instance) (c : Choice) (plan : Plan) → IsValid i plan → IsIn i c plan → Agrees i c plan.order plan.caps
agrees i c plan v inside = record { nodes = v.order; prefix = inside.prefix; caps_length = v.lengths.capacities; own = v.capacities; fixed = inside.fixed }

-- The four bounds of a message of a sought plan.
module _ (i : Instance) (c : Choice) (goal : ℕ) (plan : Plan) (m : ℕ) (w : IsInstance i) (sought : IsSought i c goal plan) (there : m < length i.messages) where
  pub capacity_most : slice_index plan.caps (source_of i m) ≤ cap_most i c (source_of i m)
  capacity_most = (capacity_between i c plan.order plan.caps (source_of i m) w (agrees i c plan sought.settled.valid sought.chosen) (source_is i m w there)).1

  pub sent_for_least : sent_from i plan m + dur_least i c (source_of i m) ≤ sent_until i plan m
  sent_for_least =
      let low = (duration_between i c plan.order plan.caps (source_of i m) w (agrees i c plan sought.settled.valid sought.chosen) (source_is i m w there)).0 in
      omega (arith, low)

  pub sent_from_most : IsChoice i c → sent_from i plan m ≤ start_most i c (source_of i m) (round_of plan m)
  sent_from_most ok = (start_between i c plan.order plan.caps (source_of i m) (round_of plan m) w ok (agrees i c plan sought.settled.valid sought.chosen) (source_is i m w there)).1

  pub sent_until_least : IsChoice i c → end_least i c (source_of i m) (round_of plan m) ≤ sent_until i plan m
  sent_until_least ok = (end_between i c plan.order plan.caps (source_of i m) (round_of plan m) w ok (agrees i c plan sought.settled.valid sought.chosen) (source_is i m w there)).0
