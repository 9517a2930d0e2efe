use Rattle.std.proofs.Common.{All}
use Rattle.schedule_exports.specs.Flows.{IsSlotOfCycle}
use Rattle.schedule_exports.proofs.flows.push_round.Given as goal

abbrev pub invariant-loop-k : goal.invariant-loop-k
invariant-loop-k l = All (IsSlotOfCycle l.instance l.plan) l.slots.items
