-- Times of an instance stay within 64 bits.
use Rattle.std.proofs.Common.{◌≡◌, ℕ, ◌+◌, ◌*◌, ◌^◌, ◌<◌, ◌≤◌, List, length, arith}
use Rattle.std.proofs.Math.Nat.{mul-le-mul_left}
use Rattle.std.proofs.lemmas.List.Sums.{get_or-le-sum_by}
use Rattle.std.proofs.lemmas.Grind.{common_steps}
use Rattle.ttp_model.specs.declared.parts.Cluster.{Cluster}
use Rattle.ttp_model.specs.Lists.{EachBelow}
use Rattle.ttp_model.specs.Instance.{Instance}
use Rattle.ttp_model.specs.Plans.{IsNodeOrder, HasOwnCapacity}
use Rattle.ttp_model.specs.Rules.{IsClusterInRange, IsInstance}
use Rattle.ttp_model.specs.Slots.{slot_duration, round_length}
use Rattle.ttp_model.specs.declared.error.Place.TheVariants.{AtCluster}
use Rattle.ttp_model.specs.declared.limits.TheConstants.{MOST_ROUND}
use Rattle.tt_layout.specs.Bounds.{IsBounded}

-- so many rounds as a plan can name, and one more, stay below 2^57 ticks
pub product_bound : (r round : ℕ) → r < 2 ^ 32 → round ≤ MOST_ROUND → r * round + MOST_ROUND < 2 ^ 57
product_bound r round a b = omega (arith, mul-le-mul_left r b)

-- a frame has a tick, so a round has one
pub round_positive : (c : Cluster) (caps : List ℕ) → IsClusterInRange c → 0 < length caps → 0 < round_length c caps
round_positive c caps ranges some = omega (arith, ranges.head_least, get_or-le-sum_by (slot_duration c) caps 0 0 some)

-- the capacities and the order of an instance are bounded
pub bounded : (i : Instance) (order caps : List ℕ) → IsInstance i → IsNodeOrder (length i.nodes) order → length caps ≡ length i.nodes → EachBelow (length i.nodes) (HasOwnCapacity i caps) → IsBounded i.cluster order caps
bounded i order caps w o same own = record {
  ranges = w.ranges AtCluster;
  some = omega (arith, w.limits.nodes_least);
  few_nodes = omega (arith, w.limits.nodes);
  few_slots = omega (arith, w.limits.nodes, o.all);
  nodes = λ k d h. grind (arith, common_steps, o.each k (omega (arith, o.all)));
  small = λ n d h. let inside : n < length i.nodes = omega arith in grind (arith, common_steps, (own n inside).own, (w.capacities n inside).small);
}
