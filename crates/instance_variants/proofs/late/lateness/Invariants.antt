use Rattle.std.proofs.Common.{◌≡◌, ◌^◌, ◌<◌, map}
use Rattle.std.specs.List.{range_with_len}
use Rattle.ttp_model.specs.Lists.{greatest}
use Rattle.plan_facts.specs.Ends.{late_by}
use Rattle.instance_variants.proofs.late.lateness.Given as goal

abbrev pub invariant-loop-p : goal.invariant-loop-p
invariant-loop-p l = record {
  late : l.late ≡ greatest (map (late_by l.instance l.plan) (range_with_len 0 l.p));
  bound : l.late < 2 ^ 33;
}
