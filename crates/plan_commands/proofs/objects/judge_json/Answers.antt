use Rattle.plan_commands.specs.Certified.{certificate_limit}
use Rattle.plan_commands.specs.Judged.{IsJudgeAnswer}
use Rattle.json_answers.specs.Telling.{IsEndOr, end_in_memory}
use Rattle.json_answers.proofs.Told.{told_of_three}
use Rattle.plan_commands.proofs.objects.judge_json.Goals as goal

pub returns-clause-answer : goal.returns-clause-answer
returns-clause-answer g c =
    told_of_three end_in_memory IsEndOr _ c.judge_run-end.new.out.items c.judge_run-end.result _ _ _ c.new-text.ensures.items c.tell.ensures (IsJudgeAnswer (certificate_limit c.args.is_long))
    (g.I.Read.remaining c.args.instance.now) (g.P.Read.remaining c.args.plan.now) (g.C.Read.remaining c.args.certificate.now) c.judge_run-end.ensures.answer
