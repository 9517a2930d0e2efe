-- How the search for a cycle goes: processes get turns, each later than those of the processes it leads to.
-- Private contracts alone cite these.
use Rattle.std.specs.Prelude.{◌≡◌, ℕ, ◌+◌, ◌-◌, ◌<◌, ◌≤◌, List, length, slice_index, Option, None, Some}
use Rattle.ttp_model.specs.Instance.{Instance}
use Rattle.ttp_model.specs.Graph.{Leads}

-- a process that p leads to and that has no turn, or none where each has one
abbrev pub PointsAhead : Instance → List ℕ → ℕ → Option ℕ → Type 0
PointsAhead i turns p None = (q : ℕ) → Leads i p q → 0 < slice_index turns q
PointsAhead i turns p (Some q) = Leads i p q × (slice_index turns q ≡ 0) × (q < length i.processes)

-- a process has its turn after those that it leads to
abbrev pub AreTurns : Instance → List ℕ → Type 0
AreTurns i turns = (p q : ℕ) → Leads i p q → 0 < slice_index turns p → (0 < slice_index turns q) × (slice_index turns q < slice_index turns p)

-- a process without a turn leads to another
abbrev pub AreStuck : Instance → List ℕ → Type 0
AreStuck i turns = (p : ℕ) → p < length i.processes → slice_index turns p ≡ 0 → PointsAhead i turns p None → ⊥

-- A search goes from process to process, and each place that it has been to has its number on the way, from 1.
pub record IsPath (i : Instance) (turns path places : List ℕ) (at : ℕ) : Type 0 where
  pub inside : at < length turns
  pub stuck : slice_index turns at ≡ 0
  pub places_length : length places ≡ length turns
  pub place_path : (p : ℕ) → 0 < slice_index places p → (slice_index places p ≤ length path) × (slice_index path (slice_index places p - 1) ≡ p)
  pub path_place : (k : ℕ) → k < length path → slice_index places (slice_index path k) ≡ k + 1
  pub each : (k : ℕ) → k + 1 < length path → Leads i (slice_index path k) (slice_index path (k + 1))
  pub last : 0 < length path → Leads i (slice_index path (length path - 1)) at
