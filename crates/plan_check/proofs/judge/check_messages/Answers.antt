use Rattle.std.proofs.Common.{arith}
use Rattle.ttp_model.specs.Plans.{Lengths, Order, Capacities}
use Rattle.plan_check.proofs.Validity.{IsValid_from}
use Rattle.plan_check.proofs.judge.check_messages.Goals as goal

pub of-layout-requires-clause-order : goal.of-layout-requires-clause-order
of-layout-requires-clause-order c = rw c.as_slice.ensures (c.requires.each Order (omega arith))

pub of-layout-requires-clause-capacities : goal.of-layout-requires-clause-capacities
of-layout-requires-clause-capacities c = rw c.as_slice-2.ensures (c.requires.each Capacities (omega arith))

pub returns : goal.returns
returns c =
    IsValid_from _ _ c.requires c.in_default.ensures c.in_default-first_not_arrived.ensures c.in_default-first_overfull.ensures c.in_default-first_wrong_channel.ensures

pub overfull-requires-clause-lengths : goal.overfull-requires-clause-lengths
overfull-requires-clause-lengths c = c.requires.each Lengths (omega arith)
