use Rattle.std.proofs.Common.{All}
use Rattle.schedule_exports.specs.Flows.{IsFlow}
use Rattle.schedule_exports.proofs.flows.push_message.Given as goal

abbrev pub invariant-loop-q : goal.invariant-loop-q
invariant-loop-q l = All (IsFlow l.instance l.plan) l.flows.items
