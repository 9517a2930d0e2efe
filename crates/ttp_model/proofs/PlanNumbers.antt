-- How large the numbers of a valid plan can be, and how early it can end.
use Rattle.std.proofs.Common.{◌≡◌, ℕ, ◌+◌, ◌<◌, ◌≤◌, length, slice_index, All, arith}
use Rattle.std.proofs.lemmas.Grind.{common_steps}
use Rattle.ttp_model.specs.declared.limits.TheConstants.{BOTH_CHANNELS, MOST_BYTES}
use Rattle.ttp_model.specs.declared.plan.Plan.{Plan}
use Rattle.ttp_model.specs.declared.error.Place.TheVariants.{AtCluster, AtProcess, AtLink, AtMessage}
use Rattle.ttp_model.specs.Instance.{Instance, message_at, node_of, source_of}
use Rattle.ttp_model.specs.Rules.{IsInstance}
use Rattle.ttp_model.specs.Graph.{HasMessage}
use Rattle.ttp_model.specs.Plans.{IsValid, start_of, end_of, round_of, HasArrived}
use Rattle.ttp_model.specs.Delays.{delay}
use Rattle.ttp_model.specs.Chains.{ChainEnds, one, by_link, by_message, least_transfer, IsPathBound}
use Rattle.ttp_model.proofs.ValidPlans.{greatest_each, greatest_reached, link_kept}
use Rattle.ttp_model.proofs.Times.{round_length-positive, least_duration-le, round-le-slot_start}

module _ (i : Instance) (plan : Plan) (w : IsInstance i) (v : IsValid i plan) where
  pub some_caps : 0 < length plan.caps
  some_caps = omega (arith, v.lengths.capacities, w.limits.nodes_least)

  pub start_below_horizon : (p : ℕ) → p < length i.processes → start_of plan p < i.cluster.horizon
  start_below_horizon p h = omega (arith, (v.in_time p h).1, (w.ranges (AtProcess p) h).wcet_least)

  -- a receiver that is at a place of the message's list
  pub receiver_inside : (m k : ℕ) → m < length i.messages → k < length (message_at i m).receivers → slice_index (message_at i m).receivers k < length i.processes
  receiver_inside m k h inside = (w.indices (AtMessage m) h).1 k 0 inside

  pub sender_inside : (m : ℕ) → m < length i.messages → (message_at i m).sender < length i.processes
  sender_inside m h = (w.indices (AtMessage m) h).0

  pub round_below_horizon : (m : ℕ) → m < length i.messages → round_of plan m < i.cluster.horizon
  round_below_horizon m h =
      let some = w.receivers m h in
      let arrived = v.arrived m h 0 some in
      let early = start_below_horizon (slice_index (message_at i m).receivers 0) (receiver_inside m 0 h some) in
      let round = round-le-slot_start i.cluster plan.order plan.caps (source_of i m) (round_of plan m) (round_length-positive i.cluster plan.caps (w.ranges AtCluster) some_caps) in
      omega (arith, arrived, early, round)

  -- what a message takes, from its sender's end to a receiver's start
  pub transfer-le : (m q : ℕ) → m < length i.messages → HasArrived i plan m q → end_of i plan (message_at i m).sender + least_transfer i (source_of i m) ≤ start_of plan q
  transfer-le m q h arrived =
      let node = w.indices (AtProcess (message_at i m).sender) (sender_inside m h) in
      let slot = least_duration-le i plan.caps (source_of i m) (w.capacities (source_of i m) node).rising (v.capacities (source_of i m) node) in
      omega (arith, arrived, v.ready m h, slot)

  message-le : (p q : ℕ) → HasMessage i p q → end_of i plan p + least_transfer i (node_of i p) ≤ start_of plan q
  message-le p q message =
      let place = message.receiver in
      let is : slice_index (message_at i message.message).receivers place.0 ≡ q = grind (arith, common_steps, place.2) in
      let arrived : HasArrived i plan message.message q = rw (← is) (v.arrived message.message message.is_there place.0 place.1) in
      rw (← message.sender) (transfer-le message.message q message.is_there arrived)

  pub chain-le : (p time : ℕ) → ChainEnds i p time → time ≤ end_of i plan p
  chain-le _ _ (one p inside) = omega (arith, v.released p inside)
  chain-le _ _ (by_link p q before chain link) = omega (arith, chain-le p before chain, link_kept i plan p q v link)
  chain-le _ _ (by_message p q before chain message) = omega (arith, chain-le p before chain, message-le p q message)

  chain_inside : (p time : ℕ) → ChainEnds i p time → p < length i.processes
  chain_inside _ _ (one p inside) = inside
  chain_inside _ _ (by_link p q before chain link) = rw (← link.after) (w.indices (AtLink link.link) link.is_there).1
  chain_inside _ _ (by_message p q before chain message) =
      let place = message.receiver in
      let is : slice_index (message_at i message.message).receivers place.0 ≡ q = grind (arith, common_steps, place.2) in
      rw (← is) (receiver_inside message.message place.0 message.is_there place.1)

  pub path_bound-le-delay : (bound : ℕ) → IsPathBound i bound → bound ≤ delay i plan
  path_bound-le-delay bound is =
      omega (arith, chain-le is.last bound is.reached, greatest_each (end_of i plan) (length i.processes) is.last (chain_inside is.last bound is.reached))

pub order_small : (i : Instance) (plan : Plan) → IsValid i plan → All (λ n. n < length i.nodes) plan.order
order_small i plan v k d h = grind (arith, common_steps, (v.order.each k (omega (arith, h, v.order.all))).node)

pub capacities_small : (i : Instance) (plan : Plan) → IsInstance i → IsValid i plan → All (λ capacity. capacity ≤ MOST_BYTES) plan.caps
capacities_small i plan w v n d h =
    let inside : n < length i.nodes = omega (arith, h, v.lengths.capacities) in
    let place = (v.capacities n inside).own in
    let small = (w.capacities n inside).small place.0 (slice_index plan.caps n) place.1 in
    grind (arith, common_steps, small, place.2)

pub starts_small : (i : Instance) (plan : Plan) → IsInstance i → IsValid i plan → All (λ start. start < i.cluster.horizon) plan.starts
starts_small i plan w v p d h = grind (arith, common_steps, start_below_horizon i plan w v p (omega (arith, h, v.lengths.starts)))

pub rounds_small : (i : Instance) (plan : Plan) → IsInstance i → IsValid i plan → All (λ round. round < i.cluster.horizon) plan.rounds
rounds_small i plan w v m d h = grind (arith, common_steps, round_below_horizon i plan w v m (omega (arith, h, v.lengths.rounds)))

pub channels_small : (i : Instance) (plan : Plan) → IsValid i plan → All (λ channel. channel ≤ BOTH_CHANNELS) plan.channels
channels_small i plan v m d h = grind (arith, common_steps, (v.on_own m (omega (arith, h, v.lengths.channels))).known)

pub delay_small : (i : Instance) (plan : Plan) → IsInstance i → IsValid i plan → delay i plan ≤ i.cluster.horizon
delay_small i plan w v =
    let last = greatest_reached (end_of i plan) (length i.processes) (omega (arith, w.limits.processes_least)) in
    omega (arith, last.2, (v.in_time last.0 last.1).1)
