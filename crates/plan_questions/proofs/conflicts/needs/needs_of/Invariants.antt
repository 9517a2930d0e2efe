use Rattle.std.proofs.Common.{◌≡◌, All, map, take}
use Rattle.plan_questions.specs.declared.conflicts.needs.Need.{Need}
use Rattle.plan_questions.specs.Conflicts.{IsMarked}
use Rattle.plan_questions.proofs.conflicts.needs.needs_of.Given as goal

abbrev pub invariant-loop-constraint : goal.invariant-loop-constraint
invariant-loop-constraint l = record {
  told : map (λ (need : Need). need.constraint) l.needs.items ≡ take l.constraint-index l.constraint-items;
  marked : All (IsMarked l.needed) l.needs.items;
}
