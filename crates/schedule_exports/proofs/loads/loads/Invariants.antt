use Rattle.std.proofs.Common.{All}
use Rattle.schedule_exports.specs.Loads.{IsNodeLoad}
use Rattle.schedule_exports.proofs.loads.loads.Given as goal

abbrev pub invariant-loop-node : goal.invariant-loop-node
invariant-loop-node l = All (IsNodeLoad l.instance l.plan) l.loads.items
