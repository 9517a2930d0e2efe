-- How the longest chains are found: by process, and by how many processes chains have. Only private contracts ask for it.
use Rattle.std.specs.Prelude.{◌≡◌, ℕ, ◌<◌, ◌≤◌, List, length, slice_index}
use Rattle.ttp_model.specs.Instance.{Instance}
use Rattle.ttp_model.specs.Chains.{ChainEnds}
use Rattle.ttp_model.specs.Walks.{Chain}

-- by process a time that a chain to it adds up to
pub record AreChainEnds (i : Instance) (ends : List ℕ) : Type 0 where
  pub all : length ends ≡ length i.processes
  pub reached : (p : ℕ) → p < length i.processes → ChainEnds i p (slice_index ends p)

-- and no chain of at most so many processes adds up to more
pub record AreEnds (i : Instance) (count : ℕ) (ends : List ℕ) : Type 0 where
  pub chains : AreChainEnds i ends
  pub greatest : (n p time : ℕ) → n ≤ count → Chain i n p time → time ≤ slice_index ends p

-- no time has fallen
abbrev pub AreKept : List ℕ → List ℕ → Type 0
AreKept old new = (p : ℕ) → slice_index old p ≤ slice_index new p
