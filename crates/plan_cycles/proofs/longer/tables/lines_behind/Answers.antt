use Rattle.std.proofs.Common.{◌≡◌, ◌≤◌, arith}
use Rattle.tt_layout.specs.Cycle.{cycle_rounds}
use Rattle.plan_cycles.proofs.BehindCycle.{lines_more, no_lines}
use Rattle.plan_cycles.proofs.longer.tables.lines_behind.Goals as goal

pub loop-round-init : goal.loop-round-init
loop-round-init c =
    rw (c.cycle_rounds-round.ensures.value, c.new-lines.ensures.items) (no_lines c.args.instance.now c.args.plan.now c.nodes-nodes.ensures.instance c.requires.valid)

pub loop-round-preserved : goal.loop-round-preserved
loop-round-preserved c =
    let behind : cycle_rounds c.args.instance.now c.args.plan.now ≤ c.loop-round.round = omega (arith, c.loop-round.auto.round, c.cycle_rounds-round.ensures.value) in
    rw c.in_ok-push_round.ensures (lines_more c.args.instance.now c.args.plan.now c.nodes-nodes.ensures.instance c.requires.valid c.loop-round.round c.loop-round.lines.items behind c.loop-round.invariant)

pub returns : goal.returns
returns c =
    let all : c.loop-round.round ≡ c.args.rounds = omega (arith, c.loop-round-test.false, c.loop-round.auto.round-end, c.requires.enough, c.cycle_rounds-round.ensures.value) in
    rw all at c.loop-round.invariant
