use Rattle.std.proofs.Common.{◌≡◌, ◌++◌, All}
use Rattle.std.specs.List.{flat_map, range_with_len}
use Rattle.plan_reasons.specs.Late.{receivers_late}
use Rattle.plan_reasons.specs.PathThere.{IsPartThere}
use Rattle.plan_reasons.proofs.late.push_receiving.Given as goal

abbrev pub invariant-loop-m : goal.invariant-loop-m
invariant-loop-m l = record {
  parts : l.parts.items ≡ l.initial.parts.items ++ flat_map (receivers_late l.instance l.ends) (range_with_len 0 l.m);
  there : All (IsPartThere l.instance) l.parts.items;
}
