use Rattle.std.proofs.Common.{All}
use Rattle.schedule_exports.specs.Flows.{IsFlow}
use Rattle.schedule_exports.proofs.flows.push_channels.Given as goal

abbrev pub invariant-loop-channel : goal.invariant-loop-channel
invariant-loop-channel l = All (IsFlow l.instance l.plan) l.flows.items
