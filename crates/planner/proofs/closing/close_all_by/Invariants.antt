use Rattle.planner.specs.Closing.{AreClosed}
use Rattle.planner.proofs.closing.close_all_by.Given as goal

abbrev pub invariant-loop-task : goal.invariant-loop-task
invariant-loop-task l = AreClosed l.instance l.yielded l.top l.closed.items l.low
