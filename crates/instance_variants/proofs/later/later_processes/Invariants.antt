use Rattle.std.proofs.Common.{◌≡◌, map, take}
use Rattle.instance_variants.specs.Later.{later_process}
use Rattle.instance_variants.proofs.later.later_processes.Given as goal

abbrev pub invariant-loop-process : goal.invariant-loop-process
invariant-loop-process l = l.all.items ≡ map (later_process l.x) (take l.process-index l.processes)
