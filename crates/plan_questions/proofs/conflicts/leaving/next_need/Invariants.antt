use Rattle.std.proofs.Common.{◌≡◌, ◌≤◌}
use Rattle.plan_questions.specs.Conflicts.{IsNarrowing}
use Rattle.plan_questions.specs.Leaving.{left_to_do}
use Rattle.plan_questions.proofs.conflicts.leaving.next_need.Given as goal

abbrev pub invariant-searches : goal.invariant-searches
invariant-searches g l = record {
  narrowing : IsNarrowing l.instance l.asking.options l.conflict;
  closer : left_to_do l.conflict ≤ left_to_do l.initial.conflict;
  same : l.conflict.needed.items ≡ l.initial.conflict.needed.items;
}

abbrev pub decreases-searches : goal.decreases-searches
decreases-searches g l = left_to_do l.conflict
