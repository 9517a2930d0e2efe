-- An instance in which processes run longer. Own profile.
use Rattle.std.specs.Prelude.{ℕ, ◌+◌, ◌≤◌, ◌==◌, if◌then◌else◌, length, map}
use Rattle.std.specs.List.{range_with_len}
use Rattle.ttp_model.specs.declared.parts.Process.{Process}
use Rattle.ttp_model.specs.Lists.{EachBelow}
use Rattle.ttp_model.specs.Instance.{Instance, process_at}

-- process p, which runs for its growth longer
abbrev pub grown_process : Instance → (ℕ → ℕ) → ℕ → Process
grown_process i growth p = record (process_at i p) { wcet = (process_at i p).wcet + growth p }

-- the instance in which each process does; all else is as it was
abbrev pub grown : Instance → (ℕ → ℕ) → Instance
grown i growth = record i { processes = map (grown_process i growth) (range_with_len 0 (length i.processes)) }

-- process p alone runs for so many ticks longer
abbrev pub alone : ℕ → ℕ → ℕ → ℕ
alone p ticks q = if q == p then ticks else 0

-- each process still fits into its window, from its release to its deadline
abbrev pub LeavesWindows : Instance → (ℕ → ℕ) → Type 0
LeavesWindows i growth = EachBelow (length i.processes) (λ p. (process_at i p).release + (process_at i p).wcet + growth p ≤ (process_at i p).deadline)
