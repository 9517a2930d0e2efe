use Rattle.std.proofs.Common.{◌≡◌, ◌≤◌, drop, length}
use Rattle.tt_infer.specs.Facts.{after}
use Rattle.tt_infer.specs.Leaves.{LeadSharply}
use Rattle.planner.specs.Sharp.{LeadsToEnd}
use Rattle.planner.proofs.sharp.sharp_steps.Given as goal

abbrev pub invariant-loop-step : goal.invariant-loop-step
invariant-loop-step l = record {
  about : l.facts ≡ after l.initial.facts l.facts.known;
  leads : LeadsToEnd l.facts (drop l.step-index l.steps);
  few : length l.kept.items ≤ l.step-index;
  sharp : LeadSharply l.facts.instance l.facts.choice l.facts.goal l.initial.facts.known l.kept.items l.facts.known;
}
