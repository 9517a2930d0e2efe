-- Why the form of a name is refused: which byte can't stand where it does, and what may. Own profile.
use Rattle.std.specs.Prelude.{◌≡◌, ℕ, ◌+◌, ◌<◌, ◌==◌, Bool, IsTrue, List, [], ◌∷◌, length, slice_index, string_bytes, if◌then◌else◌}
use Rattle.std.specs.List.{flat_map, range_with_len}
use Rattle.line_text.specs.Told.{told}
use Rattle.ttp_model.specs.Limits.{most_name_bytes}
use Rattle.ttp_model.specs.declared.error.Place.{Place}
use Rattle.ttp_model.specs.Instance.{Instance}
use Rattle.ttp_model.specs.Lists.{IsFirstFailure}
use Rattle.ttp_model.specs.Rules.{begins_name, continues_name}
use Rattle.instance_reasons.specs.declared.malformed.MalformedName.{MalformedName}
use Rattle.instance_reasons.specs.declared.malformed.NameFault.{NameFault}
use Rattle.instance_reasons.specs.declared.malformed.NameFault.TheVariants.{Empty, TooLong, WrongByte}
use Rattle.instance_reasons.specs.Spots.{IsSpot, name_at}

-- a byte may stand at the k-th place of a name
abbrev pub stands_at : ℕ → ℕ → Bool
stands_at k byte = if k == 0 then begins_name byte else continues_name byte

abbrev pub HasStanding : List ℕ → ℕ → Type 0
HasStanding name k = IsTrue (stands_at k (slice_index name k))

-- that of a name, or _ where it can't
abbrev pub standing_at : List ℕ → ℕ → ℕ
standing_at name k = if stands_at k (slice_index name k) then slice_index name k else 95

-- a name with _ in place of each byte that can't stand where it does, as it is told
abbrev pub mended_byte : List ℕ → ℕ → List ℕ
mended_byte name k = told (standing_at name k ∷ [])

abbrev pub mended_name : List ℕ → List ℕ
mended_name name = flat_map (mended_byte name) (range_with_len 0 (length name))

-- a name has no bytes, too many, or one that can't stand where it does, the first such; it is counted from 1
abbrev pub IsNameFault : List ℕ → NameFault → Type 0
IsNameFault name Empty = length name ≡ 0
IsNameFault name (TooLong bytes most by) = (bytes ≡ length name) × (most ≡ most_name_bytes) × (0 < by) × (most + by ≡ bytes)
IsNameFault name (WrongByte number byte instead) =
    (k : ℕ) × (number ≡ k + 1) × IsFirstFailure (length name) (HasStanding name) k × (byte ≡ slice_index name k)
    × (string_bytes instead ≡ mended_name name)

-- that of the name at a place
pub record IsMalformedName (i : Instance) (at : Place) (r : MalformedName) : Type 0 where
  pub spot_is : IsSpot i at r.spot
  pub fault_is : IsNameFault (name_at i at) r.fault
