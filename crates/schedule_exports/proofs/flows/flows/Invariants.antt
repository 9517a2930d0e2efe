use Rattle.std.proofs.Common.{All}
use Rattle.schedule_exports.specs.Flows.{IsFlow}
use Rattle.schedule_exports.proofs.flows.flows.Given as goal

abbrev pub invariant-loop-m : goal.invariant-loop-m
invariant-loop-m l = All (IsFlow l.instance l.plan) l.flows.items
