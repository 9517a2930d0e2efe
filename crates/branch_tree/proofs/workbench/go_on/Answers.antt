use Rattle.std.proofs.Common.{◌≤◌, length, arith, ap}
use Rattle.branch_tree.proofs.Workbenches.{no_more, next_open, comes_to}
use Rattle.branch_tree.proofs.workbench.go_on.Goals as goal

pub decide-requires-clause-is_open : goal.decide-requires-clause-is_open
decide-requires-clause-is_open c =
    let inv = c.loop-k.invariant in
    next_open c.args.kept.now.instance c.loop-k.kept c.args.decisions.now c.loop-k.k _ c.facts.ensures.is inv.instance c.requires.is_open inv.made
    c.loop-k-test.true

pub returns : goal.returns
returns c =
    let inv = c.loop-k.invariant in
    let ds = c.args.decisions.now in
    let few : length c.args.kept.now.decisions ≤ length ds = no_more c.args.kept.now.decisions ds c.requires.first in
    let within = c.loop-k.auto.k-end (omega (arith, few, ap length c.decisions-made.ensures.value)) in
    comes_to c.args.kept.now.instance c.args.kept.now.goal ds c.loop-k.kept c.loop-k.k inv.instance inv.goal inv.made
    within (λ less. absurd (omega (arith, less, c.loop-k-test.false)))
