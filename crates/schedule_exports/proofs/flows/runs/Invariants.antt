use Rattle.std.proofs.Common.{All}
use Rattle.schedule_exports.specs.Loads.{IsSomeRun}
use Rattle.schedule_exports.proofs.flows.runs.Given as goal

abbrev pub invariant-loop-p : goal.invariant-loop-p
invariant-loop-p l = All (IsSomeRun l.instance l.plan) l.runs.items
