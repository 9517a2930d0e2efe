use Rattle.std.proofs.Common.{◌∙◌}
use Rattle.planner.proofs.Shown.{answer_shows}
use Rattle.planner.proofs.Starts.{same_best, same_call}
use Rattle.planner.proofs.solving.finished.Goals as goal

pub returns-in-Plain-clause-shows : goal.returns-in-Plain-clause-shows
returns-in-Plain-clause-shows g c =
    answer_shows c.args.site.now.instance.now c.args.options c.args.course.aims.gap c.in_ok-outcome.outcome c.nodes-nodes.ensures.instance
    c.in_ok-outcome.ensures.answer

pub returns-in-Sparing-clause-answer : goal.returns-in-Sparing-clause-answer
returns-in-Sparing-clause-answer g c = c.leaner.ensures.answer c.args.options c.args.course.aims.gap c.in_ok-outcome.ensures.answer

pub returns-in-Sparing-clause-shows : goal.returns-in-Sparing-clause-shows
returns-in-Sparing-clause-shows g c =
    answer_shows c.args.site.now.instance.now c.args.options c.args.course.aims.gap c.leaner.result c.nodes-nodes.ensures.instance
    (c.leaner.ensures.answer c.args.options c.args.course.aims.gap c.in_ok-outcome.ensures.answer)

pub leaner-requires : goal.leaner-requires
leaner-requires g c = (c.args.options, c.args.course.aims.gap, c.in_ok-outcome.ensures.answer)

pub returns-in-Sparing-clause-called_off : goal.returns-in-Sparing-clause-called_off
returns-in-Sparing-clause-called_off g c = λ off.
    c.in_ok-outcome.ensures.called_off (same_call c.leaner.ensures.same.0 c.in_ok-outcome.outcome c.leaner.result c.leaner.ensures.same.1 off)

pub returns-in-Plain-clause-told : goal.returns-in-Plain-clause-told
returns-in-Plain-clause-told g c = rw c.in_ok-outcome.ensures.best c.tell.ensures

pub returns-in-Sparing-clause-told : goal.returns-in-Sparing-clause-told
returns-in-Sparing-clause-told g c =
    let same = same_best c.leaner.ensures.same.0 c.in_ok-outcome.outcome c.leaner.result c.leaner.ensures.same.1 in
    rw same (rw c.in_ok-outcome.ensures.best c.tell.ensures)

pub returns-in-Sparing-clause-best : goal.returns-in-Sparing-clause-best
returns-in-Sparing-clause-best g c =
    same_best c.leaner.ensures.same.0 c.in_ok-outcome.outcome c.leaner.result c.leaner.ensures.same.1 ∙ c.in_ok-outcome.ensures.best
