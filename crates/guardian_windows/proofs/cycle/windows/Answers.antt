use Rattle.std.proofs.Common.{◌≡◌, arith}
use Rattle.tt_layout.specs.Cycle.{cycle_rounds}
use Rattle.guardian_windows.specs.Windows.{round_windows}
use Rattle.guardian_windows.proofs.Guards.{frames_pass, nodes_are_there, windows_apart}
use Rattle.tt_layout.proofs.Ranges.{flat_map-range_with_len_more}
use Rattle.guardian_windows.proofs.cycle.windows.Goals as goal

pub of-layout-requires-clause-capacities : goal.of-layout-requires-clause-capacities
of-layout-requires-clause-capacities c = rw c.as_slice-2.ensures c.requires.capacities

pub loop-round-preserved : goal.loop-round-preserved
loop-round-preserved c =
    rw (c.in_ok-push_round.ensures, c.loop-round.invariant) (flat_map-range_with_len_more (round_windows c.args.instance.now c.args.plan.now) c.loop-round.round)

pub returns-clause-frames : goal.returns-clause-frames
returns-clause-frames c =
    let all : c.loop-round.round ≡ cycle_rounds c.args.instance.now c.args.plan.now = omega (arith, c.cycle_rounds-rounds.ensures.value) in
    rw (rw all at c.loop-round.invariant) (frames_pass c.args.instance.now c.args.plan.now)

pub returns-clause-apart : goal.returns-clause-apart
returns-clause-apart c =
    let order = rw (← c.requires.lengths.capacities) at c.requires.order in
    let all : c.loop-round.round ≡ cycle_rounds c.args.instance.now c.args.plan.now = omega (arith, c.cycle_rounds-rounds.ensures.value) in
    rw (rw all at c.loop-round.invariant) (windows_apart c.args.instance.now c.args.plan.now c.nodes.ensures.instance order)

pub returns-clause-nodes : goal.returns-clause-nodes
returns-clause-nodes c =
    let all : c.loop-round.round ≡ cycle_rounds c.args.instance.now c.args.plan.now = omega (arith, c.cycle_rounds-rounds.ensures.value) in
    rw (rw all at c.loop-round.invariant) (nodes_are_there c.args.instance.now c.args.plan.now c.requires.order)
