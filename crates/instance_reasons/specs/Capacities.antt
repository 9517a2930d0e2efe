-- Why the capacities of a node are refused; in bytes. Own profile.
use Rattle.std.specs.Prelude.{◌≡◌, ℕ, ◌+◌, ◌-◌, ◌<◌, ◌≤◌, List, length, slice_index}
use Rattle.ttp_model.specs.Limits.{most_bytes, most_capacities}
use Rattle.ttp_model.specs.declared.error.Place.TheVariants.{AtNode}
use Rattle.ttp_model.specs.Instance.{Instance, node_at}
use Rattle.ttp_model.specs.Lists.{IsFirstFailure}
use Rattle.instance_reasons.specs.declared.capacities.CapacityFault.{CapacityFault}
use Rattle.instance_reasons.specs.declared.capacities.CapacityFault.TheVariants.{Empty, Falling, TooLarge, TooMany}
use Rattle.instance_reasons.specs.declared.capacities.WrongCapacities.{WrongCapacities}
use Rattle.instance_reasons.specs.Spots.{IsSpot}

-- the k-th is larger than the one before it, if there is one
abbrev pub Rises : List ℕ → ℕ → Type 0
Rises capacities k = 0 < k → slice_index capacities (k - 1) < slice_index capacities k

-- it isn't too large
abbrev pub IsSmallAt : List ℕ → ℕ → Type 0
IsSmallAt capacities k = slice_index capacities k ≤ most_bytes

-- of these capacities there is none, there are too many, one doesn't rise, or one is too large: of several the first
abbrev pub IsCapacityFault : List ℕ → CapacityFault → Type 0
IsCapacityFault capacities Empty = length capacities ≡ 0
IsCapacityFault capacities (TooMany entries most by) = (entries ≡ length capacities) × (most ≡ most_capacities) × (0 < by) × (most + by ≡ entries)
IsCapacityFault capacities (Falling index before capacity) =
    IsFirstFailure (length capacities) (Rises capacities) index × (0 < index) × (before ≡ slice_index capacities (index - 1))
    × (capacity ≡ slice_index capacities index) × (capacity ≤ before)
IsCapacityFault capacities (TooLarge index capacity most by) =
    IsFirstFailure (length capacities) (IsSmallAt capacities) index × (capacity ≡ slice_index capacities index) × (most ≡ most_bytes)
    × (0 < by) × (most + by ≡ capacity)

-- those of node n
pub record IsWrongCapacities (i : Instance) (n : ℕ) (r : WrongCapacities) : Type 0 where
  pub spot_is : IsSpot i (AtNode n) r.spot
  pub fault_is : IsCapacityFault (node_at i n).capacities r.fault
