use Rattle.std.proofs.Common.{◌≡◌, ◌^◌, ◌<◌, map}
use Rattle.std.specs.List.{range_with_len}
use Rattle.ttp_model.specs.Lists.{greatest}
use Rattle.ttp_model.specs.Plans.{end_of}
use Rattle.ttp_model.proofs.ends.delay.Given as goal

abbrev pub invariant-loop-p : goal.invariant-loop-p
invariant-loop-p l = record {
  last : l.last ≡ greatest (map (end_of l.instance l.plan) (range_with_len 0 l.p));
  bound : l.last < 2 ^ 33;
}
