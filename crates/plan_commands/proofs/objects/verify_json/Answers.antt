use Rattle.plan_commands.specs.Verdicts.{IsVerdict}
use Rattle.json_answers.specs.Telling.{IsEndOr, end_in_memory}
use Rattle.json_answers.proofs.Told.{told_of_two}
use Rattle.plan_commands.proofs.objects.verify_json.Goals as goal

pub returns-clause-verdict : goal.returns-clause-verdict
returns-clause-verdict g c =
    told_of_two end_in_memory IsEndOr _ c.verify-end.new.out.items c.verify-end.result _ _ _
    c.new-text.ensures.items c.tell.ensures IsVerdict _ _ c.verify-end.ensures.verdict
