use Rattle.std.proofs.Common.{◌≡◌, ◌^◌, ◌<◌, map, take}
use Rattle.ttp_model.specs.Lists.{greatest}
use Rattle.ttp_model.specs.Plans.{end_of}
use Rattle.instance_variants.proofs.ends.last_end.Given as goal

abbrev pub invariant-loop-p : goal.invariant-loop-p
invariant-loop-p l = record {
  value : l.last ≡ greatest (map (end_of l.instance l.plan) (take l.p-index l.processes));
  small : l.last < 2 ^ 33;
}
