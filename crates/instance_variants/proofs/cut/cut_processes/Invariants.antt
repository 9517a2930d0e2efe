use Rattle.std.proofs.Common.{◌≡◌, map}
use Rattle.std.specs.List.{range_with_len}
use Rattle.instance_variants.specs.Cut.{cut_process}
use Rattle.instance_variants.proofs.cut.cut_processes.Given as goal

abbrev pub invariant-loop-p : goal.invariant-loop-p
invariant-loop-p l = l.all.items ≡ map (cut_process l.instance l.processes l.d) (range_with_len 0 l.p)
