use Rattle.rates_command.specs.Repeats.{IsRepeatAnswer}
use Rattle.rates_command.specs.ObjectEnds.{IsRatesEndOr, rates_in_memory}
use Rattle.json_answers.proofs.Told.{told_of_one}
use Rattle.rates_command.proofs.objects.repeat_json.Goals as goal

pub returns-clause-answer : goal.returns-clause-answer
returns-clause-answer g c =
    told_of_one rates_in_memory IsRatesEndOr _ c.repeat_run-end.new.out.items c.repeat_run-end.result _ _ _
    c.new-text.ensures.items c.tell_repeat.ensures IsRepeatAnswer _
    c.repeat_run-end.ensures.answer
