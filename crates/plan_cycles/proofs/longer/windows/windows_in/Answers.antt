use Rattle.std.proofs.Common.{◌≤◌, arith}
use Rattle.ttp_model.specs.Slots.{round_length}
use Rattle.ttp_model.specs.declared.limits.TheConstants.{MOST_ROUND}
use Rattle.tt_layout.specs.Cycle.{cycle_rounds}
use Rattle.plan_cycles.proofs.LaterWindows.{enough_windows, first_early, nodes_there, windows_more}
use Rattle.plan_cycles.proofs.longer.windows.windows_in.Goals as goal

pub of-layout-requires-clause-capacities : goal.of-layout-requires-clause-capacities
of-layout-requires-clause-capacities c = rw c.as_slice-2.ensures c.requires.valid.capacities

pub push_round-requires-clause-inside : goal.push_round-requires-clause-inside
push_round-requires-clause-inside c =
    let i = c.args.instance.now in
    let behind : cycle_rounds i c.args.plan.now ≤ c.loop-round.round = omega (arith, c.loop-round.auto.round, c.cycle_rounds-round.ensures.value) in
    let enough = enough_windows i c.args.plan.now c.nodes-slots.ensures.instance c.requires.valid c.loop-round.round behind in
    rw (c.nodes-slots.ensures.value, c.loop-round.invariant) enough

pub push_round-requires-clause-early : goal.push_round-requires-clause-early
push_round-requires-clause-early c =
    let i = c.args.instance.now in
    let behind : cycle_rounds i c.args.plan.now ≤ c.loop-round.round = omega (arith, c.loop-round.auto.round, c.cycle_rounds-round.ensures.value) in
    let long : round_length i.cluster c.args.plan.now.caps ≤ MOST_ROUND = rw (c.round_length.ensures.length, c.of-layout.ensures, c.as_slice-2.ensures) at c.round_length.ensures.bound in
    rw (c.nodes-slots.ensures.value, c.loop-round.invariant) (first_early i c.args.plan.now c.nodes-slots.ensures.instance c.requires.valid c.loop-round.round MOST_ROUND behind long)

pub loop-round-preserved : goal.loop-round-preserved
loop-round-preserved c =
    let i = c.args.instance.now in
    let behind : cycle_rounds i c.args.plan.now ≤ c.loop-round.round = omega (arith, c.loop-round.auto.round, c.cycle_rounds-round.ensures.value) in
    let more = windows_more i c.args.plan.now c.nodes-slots.ensures.instance c.requires.valid c.loop-round.round behind in
    rw (c.in_ok-push_round.ensures, c.nodes-slots.ensures.value, c.from.ensures, c.round_length.ensures.length, c.of-layout.ensures, c.as_slice-2.ensures, c.loop-round.invariant) more

pub returns-clause-nodes : goal.returns-clause-nodes
returns-clause-nodes c = rw c.loop-round.invariant (nodes_there c.args.instance.now c.args.plan.now c.nodes-slots.ensures.instance c.requires.valid c.loop-round.round)
