use Rattle.std.proofs.Common.{List, ℕ}
use Rattle.question_commands.specs.AgeAnswers.{IsAgeAnswer}
use Rattle.question_commands.specs.AgeTelling.{IsAgeEndOr, age_in_memory}
use Rattle.json_answers.proofs.Told.{told_of_one}
use Rattle.question_commands.proofs.age_objects.age_json.Goals as goal

pub returns-clause-answer : goal.returns-clause-answer
returns-clause-answer g c =
    told_of_one age_in_memory IsAgeEndOr _ c.age_run-end.new.out.items c.age_run-end.result _ _ _ c.new-text.ensures.items c.tell_age.ensures
    (λ (bytes : List ℕ). IsAgeAnswer bytes _ _ _ _ _ _ _) _ c.age_run-end.ensures.answer
