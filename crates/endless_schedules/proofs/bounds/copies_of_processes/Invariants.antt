use Rattle.std.proofs.Common.{◌≡◌, take}
use Rattle.endless_schedules.proofs.bounds.copies_of_processes.Given as goal

abbrev pub invariant-loop-process : goal.invariant-loop-process
invariant-loop-process l = l.copies.items ≡ take l.process-index l.processes
