use Rattle.std.proofs.Common.{◌≡◌, ◌++◌, All, take}
use Rattle.std.specs.List.{flat_map}
use Rattle.plan_reasons.specs.Late.{arrived_late}
use Rattle.plan_reasons.specs.PathThere.{IsPartThere}
use Rattle.plan_reasons.proofs.late.push_arrived.Given as goal

abbrev pub invariant-loop-q : goal.invariant-loop-q
invariant-loop-q l = record {
  parts : l.parts.items ≡ l.initial.parts.items ++ flat_map (arrived_late l.instance l.m l.from) (take l.q-index l.receivers);
  there : All (IsPartThere l.instance) l.parts.items;
}
