use Rattle.evidence.proofs.JudgementsTold.{bounds_told}
use Rattle.evidence.proofs.commands.judgements.bounds_are_told_in_order.Goals as goal

pub returns : goal.returns
returns g c = bounds_told _ _ _ _ _ _ _ c.judge_run.ensures.answer
