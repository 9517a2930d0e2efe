use Rattle.std.proofs.Common.{ℕ, ◌≤◌, length, slice_index}
use Rattle.ttp_model.specs.Graph.{Receives}
use Rattle.ttp_model.specs.Raising.{IsRaised}
use Rattle.plan_facts.specs.Messages.{arrival}
use Rattle.plan_facts.proofs.starts.after_messages.Given as goal

abbrev pub invariant-loop-m : goal.invariant-loop-m
invariant-loop-m l = record {
  within : l.m-index ≤ length l.m-items;
  raised : IsRaised l.m-index (λ (j : ℕ). Receives l.instance l.p (slice_index l.m-items j)) (λ (j : ℕ). arrival l.instance l.plan (slice_index l.m-items j)) l.floor l.time;
}
