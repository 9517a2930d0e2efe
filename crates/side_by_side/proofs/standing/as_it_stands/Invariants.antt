use Rattle.std.proofs.Common.{◌≡◌, take, drop}
use Rattle.sought_plans.specs.Known.{first_facts}
use Rattle.tt_infer.specs.Leaves.{Lead}
use Rattle.tt_infer.specs.Facts.{after}
use Rattle.side_by_side.proofs.Along.{GoesAlong}
use Rattle.side_by_side.proofs.standing.as_it_stands.Given as goal

abbrev pub invariant-loop-place : goal.invariant-loop-place
invariant-loop-place l = record {
  others : l.facts ≡ after l.fn.facts l.facts.known;
  lead : Lead l.fn.facts.instance l.fn.facts.choice l.leaf.goal (first_facts l.fn.facts.instance l.fn.facts.choice) (take l.place l.steps) l.facts.known;
  along : GoesAlong l.fn.facts.instance l.fn.facts.choice l.leaf.goal (drop l.place l.steps) l.facts.known;
}
