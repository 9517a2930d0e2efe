use Rattle.std.proofs.Common.{◌≡◌, ℕ, map}
use Rattle.std.specs.List.{range_with_len}
use Rattle.ttp_model.specs.Instance.{process_at}
use Rattle.endless_schedules.specs.Aging.{aged}
use Rattle.endless_schedules.proofs.aging.aged_processes.Given as goal

abbrev pub invariant-loop-p : goal.invariant-loop-p
invariant-loop-p l = l.processes.items ≡ map (λ (p : ℕ). process_at (aged l.aging.rates.now l.aging.chain l.age) p) (range_with_len 0 l.p)
