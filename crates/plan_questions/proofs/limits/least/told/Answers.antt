use Rattle.instance_variants.proofs.CutPlans.{valid_of_cut}
use Rattle.plan_questions.proofs.Shortest.{is_least, is_reached_by, some_plan}
use Rattle.plan_questions.proofs.limits.least.told.Goals as goal

pub unreachable-requires : goal.unreachable-requires
unreachable-requires c =
    some_plan c.args.instance.now c.args.processes.now c.requires.there c.args.end c.args.plan c.requires.ends c.requires.lower
    (rw c.in-Infeasible.is at c.requires.shows)

pub shorter-plan-requires-clause-other : goal.shorter-plan-requires-clause-other
shorter-plan-requires-clause-other c =
    let best = rw c.in-Some.is at (rw c.in-Stopped.is at c.requires.shows).1 in
    valid_of_cut c.args.instance.now c.args.processes.now c.args.end c.in-Some.other.plan best.0

pub returns-in-Optimal : goal.returns-in-Optimal
returns-in-Optimal c =
    is_least c.args.instance.now c.args.processes.now c.requires.there c.args.end c.args.plan c.requires.ends c.requires.lower c.args.options c.in-Optimal.cert
    c.in-Optimal.plan c.in-Optimal.delay (rw c.in-Optimal.is at c.requires.answer) (rw c.in-Optimal.is at c.requires.shows)

pub returns-in-Some : goal.returns-in-Some
returns-in-Some c =
    let best = rw c.in-Some.is at (rw c.in-Stopped.is at c.requires.shows).1 in
    let answer = rw c.in-Some.is at (rw c.in-Stopped.is at c.requires.answer) in
    is_reached_by c.args.instance.now c.args.processes.now c.requires.there c.args.end c.args.plan c.requires.ends c.requires.lower c.args.options
    c.in-Stopped.cert c.in-Stopped.why c.in-Stopped.low c.in-Some.other c.shorter-plan.result answer best
    c.shorter-plan.ensures.one c.shorter-plan.ensures.second
