use Rattle.plan_questions.proofs.Bounds.{end_cuts}
use Rattle.plan_questions.proofs.Shortest.{end_apart, end_never, end_unknown, ends_of_cut, lower_of_cut, room_of_plan}
use Rattle.plan_questions.proofs.limits.least.least_end.Goals as goal

pub least_number-requires-clause-cutting : goal.least_number-requires-clause-cutting
least_number-requires-clause-cutting g c = λ κs alive.
    end_cuts c.args.instance.now c.args.processes.now c.requires c.nodes-nodes.ensures.instance c.in_ok-low.low
    c.in_ok-low.ensures.lower c.in_ok-low.ensures.chains

pub shortest_by-requires-after_bounds : goal.shortest_by-requires-after_bounds
shortest_by-requires-after_bounds g c = λ κs alive.
    let is = rw c.in-Exact.is at c.in_ok-least.ensures in
    room_of_plan c.args.instance.now c.args.processes.now c.requires c.in-Exact.plan c.in-Exact.end
    (ends_of_cut c.args.instance.now c.args.processes.now c.requires c.in_ok-low.low c.in-Exact.end c.in-Exact.plan is.plan_at)

pub told-requires-clause-ends : goal.told-requires-clause-ends
told-requires-clause-ends g c =
    let is = rw c.in-Exact.is at c.in_ok-least.ensures in
    ends_of_cut c.args.instance.now c.args.processes.now c.requires c.in_ok-low.low c.in-Exact.end c.in-Exact.plan is.plan_at

pub told-requires-clause-lower : goal.told-requires-clause-lower
told-requires-clause-lower g c =
    let is = rw c.in-Exact.is at c.in_ok-least.ensures in
    lower_of_cut c.args.instance.now c.args.processes.now c.requires c.in_ok-low.low c.in-Exact.end is.lower

pub returns-in-Apart : goal.returns-in-Apart
returns-in-Apart g c =
    end_apart c.args.instance.now c.args.processes.now c.requires c.args.asking.now.options c.in_ok-low.low c.in-Apart.low c.in-Apart.high c.in-Apart.plan c.in-Apart.cert
    c.in_ok-low.ensures.chains (rw c.in-Apart.is at c.in_ok-least.ensures)

pub returns-in-Open : goal.returns-in-Open
returns-in-Open g c =
    end_unknown c.args.instance.now c.args.processes.now c.requires c.nodes-nodes.ensures.instance c.args.asking.now.options c.in-Open.cert c.in_ok-low.low
    c.in_ok-low.ensures.lower c.in_ok-low.ensures.chains (rw c.in-Open.is at c.in_ok-least.ensures)

pub returns : goal.returns
returns g c =
    end_never c.args.instance.now c.args.processes.now c.requires c.nodes-nodes.ensures.instance c.args.asking.now.options c.in-Never.cert
    (rw c.in-Never.is at c.in_ok-least.ensures)
