use Rattle.std.proofs.Common.{All}
use Rattle.schedule_exports.specs.Flows.{IsSlotOfCycle}
use Rattle.schedule_exports.proofs.flows.push_position.Given as goal

abbrev pub invariant-loop-channel : goal.invariant-loop-channel
invariant-loop-channel l = All (IsSlotOfCycle l.instance l.plan) l.slots.items
