use Rattle.std.proofs.Common.{List, ℕ}
use Rattle.question_commands.specs.Answers.{IsWhyAnswer}
use Rattle.json_answers.specs.Telling.{IsEndOr, end_in_memory}
use Rattle.json_answers.proofs.Told.{told_of_one}
use Rattle.question_commands.proofs.objects.why_json.Goals as goal

pub returns-clause-answer : goal.returns-clause-answer
returns-clause-answer g c =
    told_of_one end_in_memory IsEndOr _ c.why_run-end.new.out.items c.why_run-end.result _ _ _ c.new-text.ensures.items c.tell.ensures
    (λ (bytes : List ℕ). IsWhyAnswer bytes _ _ _ _ _ _) _ c.why_run-end.ensures.answer
