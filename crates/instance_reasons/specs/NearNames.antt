-- Which name is told as near: whether it may be meant.
use Rattle.std.specs.Prelude.{◌≡◌, ℕ, List, Option, None, Some, length}
use Rattle.ttp_model.specs.Lists.{EachBelow}
use Rattle.instance_reasons.specs.declared.near.NearName.{NearName}
use Rattle.instance_reasons.specs.declared.near.NearName.TheVariants.{Meant, NoName}
use Rattle.instance_reasons.specs.Malformed.{HasStanding}

-- each byte of a name may stand where it does
abbrev pub HasNameBytes : List ℕ → Type 0
HasNameBytes name = EachBelow (length name) (HasStanding name)

abbrev pub IsNear : List ℕ → NearName → Type 0
IsNear name (Meant x) = (x.now ≡ name) × HasNameBytes name
IsNear name (NoName x) = (x.now ≡ name) × ¬ HasNameBytes name

-- where one is near, it is told
abbrev pub AreNear : Option (List ℕ) → Option NearName → Type 0
AreNear None None = Unit {0}
AreNear (Some name) (Some x) = IsNear name x
AreNear _ _ = ⊥
