-- Which bytes the capacities of nodes can come to. Only private contracts ask for it.
use Rattle.std.specs.Prelude.{◌≡◌, ℕ, ◌+◌, ◌-◌, ◌*◌, ◌<◌, ◌≤◌, ◌↔◌, List, Bool, IsTrue, false, length, slice_index, slice_index_or, sum}
use Rattle.ttp_model.specs.Limits.{most_bytes, most_nodes}
use Rattle.ttp_model.specs.Lists.{EachBelow}
use Rattle.ttp_model.specs.Instance.{Instance}
use Rattle.plan_cycles.specs.Offered.{AreOffered}

-- some capacities that the first nodes offer have these bytes together
pub record HaveSum (i : Instance) (count bytes : ℕ) : Type 0 where
  pub caps : List ℕ
  pub offered : AreOffered i count caps
  pub together : sum caps ≡ bytes

-- no capacities have more
abbrev pub most_sum : ℕ
most_sum = most_nodes * most_bytes

-- it is known of each sum whether some have it
pub record AreSums (i : Instance) (count : ℕ) (sums : List Bool) : Type 0 where
  pub all : length sums ≡ most_sum + 1
  pub each : EachBelow (most_sum + 1) (λ bytes. IsTrue (slice_index_or sums bytes false) ↔ HaveSum i count bytes)

-- so it is where there is no node yet
abbrev pub AreNoSums : List Bool → Type 0
AreNoSums sums = (i : Instance) → AreSums i 0 sums

-- a capacity and a sum that some have before come to these bytes
abbrev pub IsReachedBy : List Bool → ℕ → ℕ → Type 0
IsReachedBy before bytes capacity = (capacity ≤ bytes) × IsTrue (slice_index_or before (bytes - capacity) false)

-- so does some capacity of a list
abbrev pub IsReached : List Bool → List ℕ → ℕ → Type 0
IsReached before capacities bytes = (k : ℕ) × (k < length capacities) × IsReachedBy before bytes (slice_index capacities k)

-- it is known of each of so many sums whether some capacity of a list does
pub record AreReached (before : List Bool) (capacities : List ℕ) (count : ℕ) (sums : List Bool) : Type 0 where
  pub all : length sums ≡ count
  pub each : EachBelow count (λ bytes. IsTrue (slice_index_or sums bytes false) ↔ IsReached before capacities bytes)
