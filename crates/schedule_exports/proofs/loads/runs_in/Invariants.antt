use Rattle.std.proofs.Common.{take}
use Rattle.sentences.specs.Lists.{AreTold}
use Rattle.schedule_exports.specs.Loads.{IsRun}
use Rattle.schedule_exports.proofs.loads.runs_in.Given as goal

abbrev pub invariant-loop-p : goal.invariant-loop-p
invariant-loop-p l = AreTold (IsRun l.instance l.plan) (take l.p-index l.processes) l.runs.items
