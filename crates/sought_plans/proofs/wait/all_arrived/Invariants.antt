use Rattle.std.proofs.Common.{ℕ, ◌^◌, ◌<◌, ◌≤◌, length, slice_index}
use Rattle.ttp_model.specs.Raising.{IsRaised}
use Rattle.sought_plans.specs.Known.{top_of}
use Rattle.sought_plans.specs.Dominance.{IsSentTo, last_arrival}
use Rattle.sought_plans.proofs.wait.all_arrived.Given as goal

abbrev pub invariant-loop-m : goal.invariant-loop-m
invariant-loop-m l = record {
  within : l.m-index ≤ length l.m-items;
  rounds : (j : ℕ) → j < l.m-index → 1 ≤ top_of l.known (slice_index l.m-items j);
  last : IsRaised l.m-index (λ (j : ℕ). IsSentTo l.setting.instance l.p (slice_index l.m-items j)) (λ (j : ℕ). last_arrival l.setting.instance l.setting.choice l.known (slice_index l.m-items j)) l.ended l.time;
  bound : l.time < 2 ^ 60;
}
