use Rattle.std.proofs.Common.{List, ℕ}
use Rattle.question_commands.specs.Limited.{IsLimitAnswer}
use Rattle.json_answers.specs.Telling.{IsEndOr, end_in_memory}
use Rattle.json_answers.proofs.Told.{told_of_one, untold_telling}
use Rattle.question_commands.proofs.objects.limit_json.Goals as goal

pub returns-in-Ok-clause-answer : goal.returns-in-Ok-clause-answer
returns-in-Ok-clause-answer g c =
    told_of_one end_in_memory IsEndOr _ c.limit_run-end.new.out.items c.limit_run-end.result _ _ _ c.new-text.ensures.items c.tell.ensures
    (λ (bytes : List ℕ). IsLimitAnswer bytes _ _ _ _ _ _ _) _ c.limit_run-end.ensures.answer

pub returns-clause-answer : goal.returns-clause-answer
returns-clause-answer g c =
    told_of_one end_in_memory IsEndOr _ c.limit_run-end.new.out.items c.limit_run-end.result _ _ _
    c.new-text.ensures.items (untold_telling _ _ _ c.untold.ensures)
    (λ (bytes : List ℕ). IsLimitAnswer bytes _ _ _ _ _ _ _) _ c.limit_run-end.ensures.answer
