use Rattle.std.proofs.Common.{ℕ, ◌≤◌, length, slice_index}
use Rattle.ttp_model.specs.Plans.{end_of}
use Rattle.ttp_model.specs.Raising.{IsRaised}
use Rattle.plan_facts.specs.Earliest.{GoesBefore}
use Rattle.plan_facts.proofs.starts.after_others.Given as goal

abbrev pub invariant-loop-q : goal.invariant-loop-q
invariant-loop-q l = record {
  within : l.q-index ≤ length l.q-items;
  raised : IsRaised l.q-index (λ (j : ℕ). GoesBefore l.instance l.plan l.p (slice_index l.q-items j)) (λ (j : ℕ). end_of l.instance l.plan (slice_index l.q-items j)) l.floor l.time;
}
