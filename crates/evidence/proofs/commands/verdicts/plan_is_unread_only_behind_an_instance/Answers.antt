use Rattle.evidence.proofs.PlansTold.{behind_instance}
use Rattle.evidence.proofs.commands.verdicts.plan_is_unread_only_behind_an_instance.Goals as goal

pub returns : goal.returns
returns g c = behind_instance _ _ _ _ _ c.verify.ensures.verdict
