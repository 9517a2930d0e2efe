-- An instance in which some processes have to end by a tick.
use Rattle.std.specs.Prelude.{ℕ, ◌+◌, ◌≤◌, ◌==◌, if◌then◌else◌, Bool, List, length, map, min, All}
use Rattle.std.specs.List.{list_any, range_with_len}
use Rattle.ttp_model.specs.declared.parts.Process.{Process}
use Rattle.ttp_model.specs.Instance.{Instance, process_at}

-- whether a process is one of these
abbrev pub is_one_of : List ℕ → ℕ → Bool
is_one_of ps p = list_any (λ (q : ℕ). q == p) ps

-- the deadline of process p, which is at most d where it is one of these
abbrev pub cut_deadline : Instance → List ℕ → ℕ → ℕ → ℕ
cut_deadline i ps d p = if is_one_of ps p then min (process_at i p).deadline d else (process_at i p).deadline

-- process p of the instance with that deadline
abbrev pub cut_process : Instance → List ℕ → ℕ → ℕ → Process
cut_process i ps d p = record (process_at i p) { deadline = cut_deadline i ps d p }

-- the instance with the deadlines of these processes cut to d; all else is as it was
abbrev pub cut : Instance → List ℕ → ℕ → Instance
cut i ps d = record i { processes = map (cut_process i ps d) (range_with_len 0 (length i.processes)) }

-- each of these processes can end by d, if it starts at its release
abbrev pub CanEndBy : Instance → List ℕ → ℕ → Type 0
CanEndBy i ps d = All (λ p. (process_at i p).release + (process_at i p).wcet ≤ d) ps
