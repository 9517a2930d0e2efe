-- How long slots and rounds are at least, whatever the plan.
use Rattle.std.proofs.Common.{◌≡◌, ℕ, ◌<◌, ◌≤◌, List, length, slice_index, arith, ap, inl, inr}
use Rattle.std.proofs.Math.Nat.{mul-le-mul_left, le-mul_of_pos_right}
use Rattle.std.specs.List.Sorted.{IsStrictlyIncreasing}
use Rattle.std.proofs.lemmas.Bool.{cases_eq}
use Rattle.std.proofs.lemmas.List.Kept.{AllPairs-from_increasing}
use Rattle.std.proofs.lemmas.List.Sums.{get_or-le-sum_by}
use Rattle.std.proofs.lemmas.Grind.{common_steps}
use Rattle.ttp_model.specs.declared.parts.Cluster.{Cluster}
use Rattle.ttp_model.specs.Instance.{Instance, node_at}
use Rattle.ttp_model.specs.Rules.{IsClusterInRange}
use Rattle.ttp_model.specs.Slots.{slot_duration, round_length, slot_start, duration}
use Rattle.ttp_model.specs.Plans.{HasOwnCapacity}
use Rattle.ttp_model.specs.Chains.{least_duration}

-- a longer frame takes longer
pub slot_duration-le : (c : Cluster) (a b : ℕ) → a ≤ b → slot_duration c a ≤ slot_duration c b
slot_duration-le c a b h = omega (arith, mul-le-mul_left c.per_byte h)

pub round_length-positive : (c : Cluster) (caps : List ℕ) → IsClusterInRange c → 0 < length caps → 0 < round_length c caps
round_length-positive c caps ranges some = omega (arith, ranges.head_least, get_or-le-sum_by (slot_duration c) caps 0 0 some)

-- of rising numbers a later one is no less
pub rising_le : (xs : List ℕ) → IsStrictlyIncreasing xs → (j k : ℕ) → j ≤ k → k < length xs → slice_index xs j ≤ slice_index xs k
rising_le xs rising j k le h = elim (cases_eq j k) [
  | inl same ↦ omega (arith, ap (slice_index xs) same)
  | inr other ↦ omega (arith, AllPairs-from_increasing xs rising j k 0 (omega (arith, le, other)) h)
]

-- the first is the least
pub first-le : (xs : List ℕ) → IsStrictlyIncreasing xs → (k : ℕ) → k < length xs → slice_index xs 0 ≤ slice_index xs k
first-le xs rising k h = rising_le xs rising 0 k (omega arith) h

-- a slot lasts as long as that of the least capacity
pub least_duration-le : (i : Instance) (caps : List ℕ) (n : ℕ) → IsStrictlyIncreasing (node_at i n).capacities → HasOwnCapacity i caps n → least_duration i n ≤ duration i.cluster caps n
least_duration-le i caps n rising own =
    let place = own.own in
    let there : slice_index (node_at i n).capacities place.0 ≡ slice_index caps n = grind (arith, common_steps, place.2) in
    slot_duration-le i.cluster _ _ (omega (arith, there, first-le (node_at i n).capacities rising place.0 place.1))

-- a round begins no earlier than its number says, since each takes a tick
pub round-le-slot_start : (c : Cluster) (order caps : List ℕ) (n r : ℕ) → 0 < round_length c caps → r ≤ slot_start c order caps n r
round-le-slot_start c order caps n r some = omega (arith, le-mul_of_pos_right {m = round_length c caps} r some)
