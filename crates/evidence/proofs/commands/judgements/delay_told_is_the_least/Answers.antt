use Rattle.evidence.proofs.JudgementsTold.{least_told}
use Rattle.evidence.proofs.commands.judgements.delay_told_is_the_least.Goals as goal

pub returns : goal.returns
returns g c = least_told _ _ _ _ _ _ _ c.judge_run.ensures.answer
