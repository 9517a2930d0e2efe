use Rattle.std.proofs.Common.{◌≡◌, drop, take}
use Rattle.sought_plans.specs.Known.{Known}
use Rattle.tt_infer.specs.Facts.{after}
use Rattle.tt_infer.specs.Leaves.{Lead}
use Rattle.certificate_reasons.proofs.refused.take_all.Given as goal

abbrev pub invariant-loop-k : goal.invariant-loop-k
invariant-loop-k l = record {
  about : l.facts ≡ after l.initial.facts l.facts.known;
  lead : Lead l.initial.facts.instance l.initial.facts.choice l.initial.facts.goal l.initial.facts.known (take l.k l.steps) l.facts.known;
  rest : (g : Known) × Lead l.initial.facts.instance l.initial.facts.choice l.initial.facts.goal l.facts.known (drop l.k l.steps) g;
}
