-- Which capacities the nodes of an instance offer.
use Rattle.std.specs.Prelude.{◌≡◌, ℕ, List, length}
use Rattle.ttp_model.specs.Lists.{EachBelow}
use Rattle.ttp_model.specs.Instance.{Instance}
use Rattle.ttp_model.specs.Plans.{HasOwnCapacity}

-- a capacity for each of the first nodes, so many, and one that it offers
pub record AreOffered (i : Instance) (count : ℕ) (caps : List ℕ) : Type 0 where
  pub all : length caps ≡ count
  pub own : EachBelow count (HasOwnCapacity i caps)
