use Rattle.std.proofs.Common.{◌≡◌, map}
use Rattle.std.specs.List.{range_with_len}
use Rattle.instance_variants.specs.Grown.{grown_process}
use Rattle.instance_variants.specs.Longer.{longer_by}
use Rattle.instance_variants.proofs.longer.longer_processes.Given as goal

abbrev pub invariant-loop-p : goal.invariant-loop-p
invariant-loop-p l = l.all.items ≡ map (grown_process l.instance (longer_by l.instance l.processes l.scale l.x)) (range_with_len 0 l.p)
