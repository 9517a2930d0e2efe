use Rattle.std.proofs.Common.{◌≡◌, map}
use Rattle.std.specs.List.{range_with_len}
use Rattle.instance_variants.specs.Only.{process_of}
use Rattle.instance_variants.proofs.kept.only.processes.Given as goal

abbrev pub invariant-loop-p : goal.invariant-loop-p
invariant-loop-p l = l.all.items ≡ map (process_of l.instance l.constraints) (range_with_len 0 l.p)
