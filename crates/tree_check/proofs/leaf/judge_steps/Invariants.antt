use Rattle.std.proofs.Common.{◌≡◌, take}
use Rattle.sought_plans.specs.Known.{first_facts}
use Rattle.tt_infer.specs.Facts.{after}
use Rattle.tt_infer.specs.Leaves.{Lead}
use Rattle.tree_check.proofs.leaf.judge_steps.Given as goal

abbrev pub invariant-loop-place : goal.invariant-loop-place
invariant-loop-place l =
    let first = l.fn.facts in
    record {
      about : l.facts ≡ after first l.facts.known;
      lead : Lead first.instance first.choice first.goal (first_facts first.instance first.choice) (take l.place l.steps) l.facts.known;
    }
