use Rattle.evidence.proofs.JudgementsTold.{none_told}
use Rattle.evidence.proofs.commands.judgements.none_is_told_of_no_plan.Goals as goal

pub returns : goal.returns
returns g c = none_told _ _ _ _ _ _ _ c.judge_run.ensures.answer
