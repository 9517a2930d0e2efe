use Rattle.std.proofs.Common.{◌≡◌, ◌++◌, map, take, drop}
use Rattle.rates_model.specs.Finer.{finer_process}
use Rattle.rates_model.proofs.finer.make_processes_finer.Given as goal

abbrev pub invariant-loop-process : goal.invariant-loop-process
invariant-loop-process l = l.processes ≡ map (finer_process l.finer) (take l.process-index l.fn.processes) ++ drop l.process-index l.fn.processes
