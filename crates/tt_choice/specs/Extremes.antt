-- The least and the greatest slot times and capacities of a choice: over all orders and capacities
-- that agree with it, and the sums by which they are found. Ticks; rounds from 0. Own profile.
use Rattle.std.specs.Prelude.{◌≡◌, ℕ, ◌+◌, ◌-◌, ◌*◌, ◌≤◌, ◌==◌, if◌then◌else◌, nat_lt, List, length, slice_index, Option, None, Some, sum_by}
use Rattle.std.specs.List.{position_or_len}
use Rattle.ttp_model.specs.Instance.{Instance, node_at}
use Rattle.ttp_model.specs.Slots.{slot_duration, duration, slot_start, slot_end, nodes_before}
use Rattle.ttp_model.specs.Totals.{total}
use Rattle.tt_choice.specs.Choice.{Choice, fixed_cap, Agrees}

-- what is measured at an order and capacities
abbrev pub Measure : Type 0
Measure = List ℕ → List ℕ → ℕ

-- when the slot of node n begins in round r
abbrev pub start_at : Instance → ℕ → ℕ → Measure
start_at i n r order caps = slot_start i.cluster order caps n r

-- when it ends
abbrev pub end_at : Instance → ℕ → ℕ → Measure
end_at i n r order caps = slot_end i.cluster order caps n r

-- the capacity of node n, in bytes
abbrev pub cap_at : ℕ → Measure
cap_at n order caps = slice_index caps n

-- how long its slot is
abbrev pub dur_at : Instance → ℕ → Measure
dur_at i n order caps = duration i.cluster caps n

-- some order and capacities that agree give the value, and none gives less
pub record IsLeastOf (i : Instance) (c : Choice) (measure : Measure) (value : ℕ) : Type 0 where
  pub order : List ℕ
  pub caps : List ℕ
  pub agrees : Agrees i c order caps
  pub reached : measure order caps ≡ value
  pub bound :
      (others sizes : List ℕ) → Agrees i c others sizes → value ≤ measure others sizes

-- some order and capacities that agree give the value, and none gives more
pub record IsMostOf (i : Instance) (c : Choice) (measure : Measure) (value : ℕ) : Type 0 where
  pub order : List ℕ
  pub caps : List ℕ
  pub agrees : Agrees i c order caps
  pub reached : measure order caps ≡ value
  pub bound :
      (others sizes : List ℕ) → Agrees i c others sizes → measure others sizes ≤ value

-- The sums: all free capacities least, or all greatest; a node that is not placed comes directly
-- after the prefix, or last.
-- the capacity that is fixed, or the first and so the least of the node's options
abbrev pub least_option : Instance → ℕ → Option ℕ → ℕ
least_option i n None = slice_index (node_at i n).capacities 0
least_option i n (Some fixed) = fixed

-- the capacity that is fixed, or the last and so the greatest
abbrev pub most_option : Instance → ℕ → Option ℕ → ℕ
most_option i n None = slice_index (node_at i n).capacities (length (node_at i n).capacities - 1)
most_option i n (Some fixed) = fixed

-- the least capacity of node n
abbrev pub cap_least : Instance → Choice → ℕ → ℕ
cap_least i c n = least_option i n (fixed_cap c n)

-- its greatest capacity
abbrev pub cap_most : Instance → Choice → ℕ → ℕ
cap_most i c n = most_option i n (fixed_cap c n)

-- the least duration of its slot
abbrev pub dur_least : Instance → Choice → ℕ → ℕ
dur_least i c n = slot_duration i.cluster (cap_least i c n)

-- the greatest duration of its slot
abbrev pub dur_most : Instance → Choice → ℕ → ℕ
dur_most i c n = slot_duration i.cluster (cap_most i c n)

-- where a node stands in an order, or the order's length where it does not
abbrev pub place_of : ℕ → List ℕ → ℕ
place_of n order = position_or_len (λ m. m == n) order

-- how far into a round the slot of n begins at least: after the placed nodes before it, or after
-- all of them where it isn't placed
abbrev pub offset_least : Instance → Choice → ℕ → ℕ
offset_least i c n = sum_by (dur_least i c) (nodes_before n c.prefix)

-- and at most: after the placed nodes before it, or after all other nodes
abbrev pub offset_most : Instance → Choice → ℕ → ℕ
offset_most i c n =
    if nat_lt (place_of n c.prefix) (length c.prefix)
    then sum_by (dur_most i c) (nodes_before n c.prefix)
    else total (dur_most i c) (length i.nodes) - dur_most i c n

-- when the slot of n begins in round r at least: whole rounds of least durations, and the offset
abbrev pub start_least : Instance → Choice → ℕ → ℕ → ℕ
start_least i c n r = r * total (dur_least i c) (length i.nodes) + offset_least i c n

-- when it begins at most
abbrev pub start_most : Instance → Choice → ℕ → ℕ → ℕ
start_most i c n r = r * total (dur_most i c) (length i.nodes) + offset_most i c n

-- when it ends at least
abbrev pub end_least : Instance → Choice → ℕ → ℕ → ℕ
end_least i c n r = start_least i c n r + dur_least i c n

-- when it ends at most
abbrev pub end_most : Instance → Choice → ℕ → ℕ → ℕ
end_most i c n r = start_most i c n r + dur_most i c n
