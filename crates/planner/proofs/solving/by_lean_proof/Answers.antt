use Rattle.std.proofs.Common.{◌≡◌}
use Rattle.search_workers.specs.declared.outcome.Why.TheVariants.{CalledOff, Gap}
use Rattle.planner.specs.Answers.{IsOutcome}
use Rattle.planner.proofs.Shown.{answer_shows}
use Rattle.planner.proofs.Ended.{end_outcome}
use Rattle.planner.proofs.solving.by_lean_proof.Goals as goal
use Rattle.planner.proofs.solving.by_lean_proof.Goals.{After-ended}

outcome_is : (g : _) (c : After-ended g) → IsOutcome c.args.site.now.instance.now c.args.options c.args.course.aims.gap c.ended.result
outcome_is g c =
    let i = c.args.site.now.instance.now in
    end_outcome i c.args.options c.args.course.aims.gap Gap c.args.search.best c.in-Some.cert c.ended.result c.nodes-nodes.ensures.instance
    c.requires.searching.found c.in-Some.ensures c.ended.ensures.answer

pub returns-in-Some-clause-answer : goal.returns-in-Some-clause-answer
returns-in-Some-clause-answer g c = outcome_is g (goal.at.returns-in-Some-clause-answer g c).After-ended

pub returns-in-Some-clause-shows : goal.returns-in-Some-clause-shows
returns-in-Some-clause-shows g c =
    answer_shows c.args.site.now.instance.now c.args.options c.args.course.aims.gap c.ended.result c.nodes-nodes.ensures.instance
    (outcome_is g (goal.at.returns-in-Some-clause-shows g c).After-ended)

pub returns-in-Some-clause-called_off : goal.returns-in-Some-clause-called_off
returns-in-Some-clause-called_off g c = λ off. let wrong : Gap ≡ CalledOff = c.ended.ensures.called_off off in absurd cc

pub returns-in-Some-clause-told : goal.returns-in-Some-clause-told
returns-in-Some-clause-told g c = rw c.ended.ensures.best c.tell.ensures

pub returns-in-Some-clause-best : goal.returns-in-Some-clause-best
returns-in-Some-clause-best g c = c.ended.ensures.best
