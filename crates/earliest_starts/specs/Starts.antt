-- How the starts of a complete choice are found, rank by rank. Only private contracts ask for it.
use Rattle.std.specs.Prelude.{◌≡◌, ℕ, ◌+◌, ◌^◌, ◌<◌, ◌≤◌, List, length, slice_index, IsTrue, Contains}
use Rattle.ttp_model.specs.Lists.{EachBelow}
use Rattle.ttp_model.specs.Instance.{Instance, process_at, message_at}
use Rattle.tt_choice.specs.Choice.{Choice, is_before}
use Rattle.earliest_starts.specs.Fixed.{sends_until}
use Rattle.earliest_starts.specs.Clashes.{WaitsUntil}

-- when each process is released, and has those of its messages whose index is below the count
pub record AreFloors (i : Instance) (c : Choice) (count : ℕ) (floors : List ℕ) : Type 0 where
  pub all : length floors ≡ length i.processes
  pub waits : EachBelow (length i.processes) (λ p. WaitsUntil i c p (slice_index floors p))
  pub released :
      EachBelow (length i.processes) (λ p. (process_at i p).release ≤ slice_index floors p)
  pub arrived : (m p : ℕ) → m < count → Contains (message_at i m).receivers p
      → sends_until i c m + i.cluster.copy_in ≤ slice_index floors p
  pub small : EachBelow (length i.processes) (λ p. slice_index floors p < 2 ^ 59)

-- process p starts as soon as it may, and ends in time
pub record StartsInTime (i : Instance) (c : Choice) (floors starts : List ℕ) (p : ℕ) : Type 0 where
  pub waits : WaitsUntil i c p (slice_index starts p)
  pub floor : slice_index floors p ≤ slice_index starts p
  pub after : (q : ℕ) → IsTrue (is_before c q p)
      → slice_index starts q + (process_at i q).wcet ≤ slice_index starts p
  pub deadline : slice_index starts p + (process_at i p).wcet ≤ (process_at i p).deadline
  pub horizon : slice_index starts p + (process_at i p).wcet ≤ i.cluster.horizon

-- so it is of each process of a rank below
abbrev pub AreSettledBelow : Instance → Choice → List ℕ → List ℕ → List ℕ → ℕ → Type 0
AreSettledBelow i c ranks floors starts rank =
    (p : ℕ) → p < length i.processes → slice_index ranks p < rank → StartsInTime i c floors starts p

-- so it is of each process
abbrev pub AreSettled : Instance → Choice → List ℕ → List ℕ → Type 0
AreSettled i c floors starts = EachBelow (length i.processes) (StartsInTime i c floors starts)

-- q goes before p
abbrev pub GoesBefore : Choice → ℕ → ℕ → Type 0
GoesBefore c p q = IsTrue (is_before c q p)

-- when q ends, by these starts
abbrev pub end_in : Instance → List ℕ → ℕ → ℕ
end_in i starts q = slice_index starts q + (process_at i q).wcet
