use Rattle.std.proofs.Common.{◌≡◌, ◌++◌, All}
use Rattle.std.specs.List.{flat_map, range_with_len}
use Rattle.plan_reasons.specs.Late.{released_late}
use Rattle.plan_reasons.specs.PathThere.{IsPartThere}
use Rattle.plan_reasons.proofs.late.push_released.Given as goal

abbrev pub invariant-loop-p : goal.invariant-loop-p
invariant-loop-p l = record {
  parts : l.parts.items ≡ l.initial.parts.items ++ flat_map (released_late l.instance) (range_with_len 0 l.p);
  there : All (IsPartThere l.instance) l.parts.items;
}
