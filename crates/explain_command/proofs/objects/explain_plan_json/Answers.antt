use Rattle.explain_command.specs.Explained.{IsPlanExplained}
use Rattle.json_answers.specs.Telling.{IsEndOr, end_in_memory}
use Rattle.json_answers.proofs.Told.{told_of_two}
use Rattle.explain_command.proofs.objects.explain_plan_json.Goals as goal

pub returns-clause-answer : goal.returns-clause-answer
returns-clause-answer g c =
    told_of_two end_in_memory IsEndOr _ c.explain_plan-end.new.out.items c.explain_plan-end.result _ _ _
    c.new-text.ensures.items c.tell.ensures IsPlanExplained _ _
    c.explain_plan-end.ensures.answer
