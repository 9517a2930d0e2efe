use Rattle.std.proofs.Common.{◌≡◌, subst, arith}
use Rattle.ttp_model.specs.Delays.{delay}
use Rattle.earliest_starts.specs.declared.answer.Earliest.{Earliest}
use Rattle.earliest_starts.specs.Answers.{IsEarliestAnswer, IsEarliest}
use Rattle.branch_tree.proofs.EarliestDelays.{earliest_below}
use Rattle.branch_tree.proofs.finding.earliest_plan.Goals as goal

pub overflow_cast-result : goal.overflow_cast-result
overflow_cast-result c =
    let i = c.args.instance.now in
    let d = c.args.choice.now in
    let answer : IsEarliest i d c.in-Plan.plan × (c.in-Plan.ticks ≡ delay i c.in-Plan.plan) = subst (λ (e : Earliest). IsEarliestAnswer i d e)
    c.in-Plan.is c.in_ok-plan.ensures in
    let below = earliest_below i d c.args.goal c.in-Plan.plan c.processes-processes.ensures.instance answer.0 c.requires.better in
    omega (arith, answer.1, below, c.ranges.goal)

pub returns-clause-below : goal.returns-clause-below
returns-clause-below c =
    let i = c.args.instance.now in
    let d = c.args.choice.now in
    let answer : IsEarliest i d c.in-Plan.plan × (c.in-Plan.ticks ≡ delay i c.in-Plan.plan) = subst (λ (e : Earliest). IsEarliestAnswer i d e)
    c.in-Plan.is c.in_ok-plan.ensures in
    let below = earliest_below i d c.args.goal c.in-Plan.plan c.processes-processes.ensures.instance answer.0 c.requires.better in
    omega (arith, answer.1, below)
