use Rattle.std.proofs.Common.{◌≡◌, ◌++◌, All}
use Rattle.std.specs.List.{flat_map, range_with_len}
use Rattle.plan_reasons.specs.Late.{linked_late}
use Rattle.plan_reasons.specs.PathThere.{IsPartThere}
use Rattle.plan_reasons.proofs.late.push_linked.Given as goal

abbrev pub invariant-loop-l : goal.invariant-loop-l
invariant-loop-l l = record {
  parts : l.parts.items ≡ l.initial.parts.items ++ flat_map (linked_late l.instance l.ends) (range_with_len 0 l.l);
  there : All (IsPartThere l.instance) l.parts.items;
}
