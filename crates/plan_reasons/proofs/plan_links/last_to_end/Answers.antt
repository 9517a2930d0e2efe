use Rattle.std.proofs.Common.{ap, arith, length}
use Rattle.ttp_model.specs.Plans.{end_of}
use Rattle.ttp_model.proofs.ValidPlans.{greatest_reached}
use Rattle.plan_reasons.proofs.plan_links.last_to_end.Goals as goal

pub unreachable-requires : goal.unreachable-requires
unreachable-requires c =
    let i = c.args.instance.now in
    let count = ap length c.processes-count.ensures.value in
    let last = greatest_reached (end_of i c.args.plan.now) (length i.processes) (omega (arith, c.processes-count.ensures.instance.limits.processes_least)) in
    c.loop-p.invariant last.0 (omega (arith, last.1, count, c.loop-p-test.false)) last.2
