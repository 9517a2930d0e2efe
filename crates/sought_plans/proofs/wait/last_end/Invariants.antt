use Rattle.std.proofs.Common.{ℕ, ◌≤◌, length, slice_index}
use Rattle.ttp_model.specs.Instance.{process_at}
use Rattle.ttp_model.specs.Raising.{IsRaised}
use Rattle.sought_plans.specs.Known.{le_of}
use Rattle.sought_plans.specs.Dominance.{MayGoBefore}
use Rattle.sought_plans.proofs.wait.last_end.Given as goal

abbrev pub invariant-loop-x : goal.invariant-loop-x
invariant-loop-x l = record {
  within : l.x-index ≤ length l.x-items;
  raised : IsRaised l.x-index (λ (j : ℕ). MayGoBefore l.instance l.known l.p (slice_index l.x-items j)) (λ (j : ℕ). le_of l.known (slice_index l.x-items j)) (process_at l.instance l.p).release l.time;
}
