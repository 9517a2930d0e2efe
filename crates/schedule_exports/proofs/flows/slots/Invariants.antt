use Rattle.std.proofs.Common.{All}
use Rattle.schedule_exports.specs.Flows.{IsSlotOfCycle}
use Rattle.schedule_exports.proofs.flows.slots.Given as goal

abbrev pub invariant-loop-round : goal.invariant-loop-round
invariant-loop-round l = All (IsSlotOfCycle l.instance l.plan) l.slots.items
