-- What the longest chain to each process adds up to (our own profile).
use Rattle.std.specs.Prelude.{◌≡◌, ℕ, ◌<◌, ◌≤◌, List, length, slice_index}
use Rattle.ttp_model.specs.Instance.{Instance}
use Rattle.ttp_model.specs.Chains.{ChainEnds}

-- a chain to process p adds up to this time, and none to more
pub record IsLongest (i : Instance) (p time : ℕ) : Type 0 where
  pub reached : ChainEnds i p time
  pub greatest : (other : ℕ) → ChainEnds i p other → other ≤ time

-- of each process such a time
pub record AreLongest (i : Instance) (ends : List ℕ) : Type 0 where
  pub all : length ends ≡ length i.processes
  pub each : (p : ℕ) → p < length i.processes → IsLongest i p (slice_index ends p)
