use Rattle.std.proofs.Common.{arith}
use Rattle.branch_tree.proofs.EarliestDelays.{earliest_delay}
use Rattle.branch_tree.proofs.finding.found.Goals as goal

pub closed_at-requires-clause-least : goal.closed_at-requires-clause-least
closed_at-requires-clause-least c = λ other v there.
    let e = c.in_ok-first.ensures in
    let least = earliest_delay c.args.instance.now c.args.choice.now c.in_ok-first.first other c.processes-processes.ensures.instance e.plan v there in
    omega (arith, e.ticks, least)
