use Rattle.std.proofs.Common.{◌∙◌, ap, sym}
use Rattle.tt_infer.specs.Facts.{Facts}
use Rattle.search_trees.specs.Propagator.{Propagator}
use Rattle.branch_tree.proofs.Workbenches.{choice_at, closes_at, left_at}
use Rattle.branch_tree.proofs.working.worked_from.Goals as goal

pub taken-requires-clause-choice : goal.taken-requires-clause-choice
taken-requires-clause-choice c =
    let whole = rw (c.requires.depth, c.decisions.ensures.value) at c.if-decisions-depth.false in
    let told = c.facts-facts.ensures.value ∙ ap (λ (p : Propagator). p.current.facts) c.in_ok-kind.ensures.same in
    c.choice.ensures.value ∙ ap (λ (s : Facts). s.choice) told
    ∙ choice_at c.args.instance.now c.args.goal c.args.task.now.decisions c.args.reached.now c.requires.comes c.decisions.ensures.is whole

pub taken-requires-clause-above : goal.taken-requires-clause-above
taken-requires-clause-above c =
    let whole = rw (c.requires.depth, c.decisions.ensures.value) at c.if-decisions-depth.false in
    let left = sym c.closed.ensures.value ∙ c.if-closed.false in
    (left_at c.args.instance.now c.args.goal c.args.task.now.decisions c.args.reached.now c.requires.comes c.decisions.ensures.is whole left).above

pub returns-then-closed-clause-worked : goal.returns-then-closed-clause-worked
returns-then-closed-clause-worked c =
    let whole = rw (c.requires.depth, c.decisions.ensures.value) at c.if-decisions-depth.false in
    closes_at c.args.instance.now c.args.goal c.args.task.now.decisions c.args.reached.now c.requires.comes c.decisions.ensures.is whole
    c.in_ok-leaf.leaf c.in_ok-leaf.ensures.closes c.in_ok-leaf.ensures.goal
