use Rattle.explain_command.specs.Explained.{IsInstanceExplained}
use Rattle.json_answers.specs.Telling.{IsEndOr, end_in_memory}
use Rattle.json_answers.proofs.Told.{told_of_one}
use Rattle.explain_command.proofs.objects.explain_instance_json.Goals as goal

pub returns-clause-answer : goal.returns-clause-answer
returns-clause-answer g c =
    told_of_one end_in_memory IsEndOr _ c.explain_instance-end.new.out.items c.explain_instance-end.result _ _ _
    c.new-text.ensures.items c.tell.ensures IsInstanceExplained _
    c.explain_instance-end.ensures.answer
