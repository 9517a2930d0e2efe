use Rattle.plan_questions.proofs.MarginCuts.{lack-le-most, lacks, margin_apart, margin_cuts, margin_greatest, margin_never, margin_unknown, margin_window}
use Rattle.plan_questions.proofs.margins.greatest.greatest_margin.Goals as goal

pub least_number-requires-clause-cutting : goal.least_number-requires-clause-cutting
least_number-requires-clause-cutting g c = λ κs alive.
    margin_cuts c.args.instance.now c.args.processes.now c.args.scale c.nodes-nodes.ensures.instance c.window_margin-most.result
    c.window_margin-most.ensures.value

pub overflow_sub-result : goal.overflow_sub-result
overflow_sub-result g c =
    let is = rw (c.in-Exact.is, c.in-Some.is) at c.in_ok-least.ensures in
    lack-le-most c.args.instance.now c.args.processes.now c.args.scale c.nodes-nodes.ensures.instance c.window_margin-most.result
    c.window_margin-most.ensures.value c.in-Exact.number c.in-Exact.plan is.plan_at

pub first_without_room-requires : goal.first_without_room-requires
first_without_room-requires g c =
    lacks c.args.instance.now c.args.processes.now c.args.scale c.nodes-nodes.ensures.instance c.window_margin-most.result
    c.window_margin-most.ensures.value c.args.asking.now.options c.requires.there c.requires.some

pub returns-in-Some : goal.returns-in-Some
returns-in-Some g c =
    margin_greatest c.args.instance.now c.args.processes.now c.args.scale c.nodes-nodes.ensures.instance c.window_margin-most.result
    c.window_margin-most.ensures.value c.args.asking.now.options c.in-Exact.number c.in-Exact.plan c.in-Some.cert
    (rw (c.in-Exact.is, c.in-Some.is) at c.in_ok-least.ensures)

pub returns-in-Exact : goal.returns-in-Exact
returns-in-Exact g c =
    margin_window c.args.instance.now c.args.processes.now c.args.scale c.nodes-nodes.ensures.instance c.window_margin-most.result
    c.window_margin-most.ensures.value c.args.asking.now.options c.requires.there c.requires.some c.in-Exact.number c.first_without_room.result
    c.in-Exact.plan (rw (c.in-Exact.is, c.in-None.is) at c.in_ok-least.ensures) c.first_without_room.ensures

pub returns-in-Apart : goal.returns-in-Apart
returns-in-Apart g c =
    margin_apart c.args.instance.now c.args.processes.now c.args.scale c.nodes-nodes.ensures.instance c.window_margin-most.result
    c.window_margin-most.ensures.value c.args.asking.now.options c.requires.there c.requires.some c.in-Apart.low c.in-Apart.high c.in-Apart.plan
    c.in-Apart.cert (rw c.in-Apart.is at c.in_ok-least.ensures)

pub returns-in-Open : goal.returns-in-Open
returns-in-Open g c =
    margin_unknown c.args.instance.now c.args.processes.now c.args.scale c.nodes-nodes.ensures.instance c.window_margin-most.result
    c.window_margin-most.ensures.value c.args.asking.now.options c.requires.there c.requires.some c.in-Open.cert
    (rw c.in-Open.is at c.in_ok-least.ensures)

pub returns : goal.returns
returns g c =
    margin_never c.args.instance.now c.args.processes.now c.args.scale c.nodes-nodes.ensures.instance c.window_margin-most.result
    c.window_margin-most.ensures.value c.args.asking.now.options c.in-Never.cert (rw c.in-Never.is at c.in_ok-least.ensures)
