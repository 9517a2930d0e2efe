use Rattle.rates_command.specs.Repeats.{IsPlanRepeatAnswer}
use Rattle.rates_command.specs.ObjectEnds.{IsRatesEndOr, rates_in_memory}
use Rattle.json_answers.proofs.Told.{told_of_two}
use Rattle.rates_command.proofs.objects.repeat_plan_json.Goals as goal

pub returns-clause-answer : goal.returns-clause-answer
returns-clause-answer g c =
    told_of_two rates_in_memory IsRatesEndOr _ c.repeat_plan_run-end.new.out.items c.repeat_plan_run-end.result _ _ _
    c.new-text.ensures.items c.tell_repeat.ensures IsPlanRepeatAnswer _ _
    c.repeat_plan_run-end.ensures.answer
