-- Slots and rounds of an instance are of some length, and short.
use Rattle.std.proofs.Common.{ℕ, ◌<◌, ◌≤◌, length, Option, None, Some, arith}
use Rattle.std.proofs.Math.Nat.{mul-le-mul_left, mul-le-mul_right}
use Rattle.std.proofs.lemmas.List.Elements.{All-contains, All-get_or}
use Rattle.ttp_model.specs.declared.limits.TheConstants.{MOST_BYTES, MOST_DURATION, MOST_ROUND, MOST_NODES}
use Rattle.ttp_model.specs.declared.parts.Cluster.{Cluster}
use Rattle.ttp_model.specs.declared.error.Place.TheVariants.{AtCluster}
use Rattle.ttp_model.specs.Instance.{Instance, node_at}
use Rattle.ttp_model.specs.Rules.{IsInstance, IsClusterInRange, IsCapacityList}
use Rattle.ttp_model.specs.Slots.{slot_duration}
use Rattle.ttp_model.specs.Totals.{total}
use Rattle.ttp_model.proofs.Totals.{total_bound, term_in_total}
use Rattle.tt_choice.specs.Choice.{Choice, IsChoice, IsOption, fixed_cap}
use Rattle.tt_choice.specs.Extremes.{least_option, most_option, cap_least, cap_most, dur_least, dur_most}

least_small : (i : Instance) (n : ℕ) (fixed : Option ℕ) → IsCapacityList (node_at i n).capacities → IsOption i n fixed → least_option i n fixed ≤ MOST_BYTES
least_small i n None list own = All-get_or (λ (k : ℕ). k ≤ MOST_BYTES) _ 0 0 (omega (arith, list.some)) list.small
least_small i n (Some fixed) list own = All-contains (λ (k : ℕ). k ≤ MOST_BYTES) _ _ list.small own

most_small : (i : Instance) (n : ℕ) (fixed : Option ℕ) → IsCapacityList (node_at i n).capacities → IsOption i n fixed → most_option i n fixed ≤ MOST_BYTES
most_small i n None list own = All-get_or (λ (k : ℕ). k ≤ MOST_BYTES) _ _ 0 (omega (arith, list.some)) list.small
most_small i n (Some fixed) list own = All-contains (λ (k : ℕ). k ≤ MOST_BYTES) _ _ list.small own

duration_short : (c : Cluster) (capacity : ℕ) → IsClusterInRange c → capacity ≤ MOST_BYTES → (0 < slot_duration c capacity) × (slot_duration c capacity ≤ MOST_DURATION)
duration_short c capacity range small =
    let bytes = mul-le-mul_left c.per_byte small in
    let ticks = mul-le-mul_right MOST_BYTES range.per_byte in
    (omega (arith, range.head_least), omega (arith, bytes, ticks, range.lead, range.trail, range.head))

round_short : (dur : ℕ → ℕ) (count : ℕ) → 1 ≤ count → count ≤ MOST_NODES → ((n : ℕ) → n < count → (0 < dur n) × (dur n ≤ MOST_DURATION)) → (0 < total dur count) × (total dur count ≤ MOST_ROUND)
round_short dur count some few each =
    let all = total_bound dur MOST_DURATION count (λ n h. (each n h).1) in
    let products = mul-le-mul_right MOST_DURATION few in
    let first = term_in_total dur count 0 some in
    (omega (arith, first, (each 0 some).0), omega (arith, all, products))

pub round_least_short : (i : Instance) (c : Choice) → IsInstance i → IsChoice i c → (0 < total (dur_least i c) (length i.nodes)) × (total (dur_least i c) (length i.nodes) ≤ MOST_ROUND)
round_least_short i c h choice =
    round_short (dur_least i c) (length i.nodes) h.limits.nodes_least h.limits.nodes (λ n inside.
    duration_short i.cluster (cap_least i c n) (h.ranges AtCluster) (least_small i n (fixed_cap c n) (h.capacities n inside) (choice.options n inside)))

pub round_most_short : (i : Instance) (c : Choice) → IsInstance i → IsChoice i c → (0 < total (dur_most i c) (length i.nodes)) × (total (dur_most i c) (length i.nodes) ≤ MOST_ROUND)
round_most_short i c h choice =
    round_short (dur_most i c) (length i.nodes) h.limits.nodes_least h.limits.nodes (λ n inside.
    duration_short i.cluster (cap_most i c n) (h.ranges AtCluster) (most_small i n (fixed_cap c n) (h.capacities n inside) (choice.options n inside)))
