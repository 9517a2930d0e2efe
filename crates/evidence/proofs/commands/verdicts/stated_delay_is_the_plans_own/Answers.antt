use Rattle.evidence.proofs.PlansTold.{own_delay}
use Rattle.evidence.proofs.commands.verdicts.stated_delay_is_the_plans_own.Goals as goal

pub returns : goal.returns
returns g c = own_delay _ _ _ _ _ c.verify.ensures.verdict
