use Rattle.instance_variants.proofs.LaterPlans.{none_ever}
use Rattle.instance_variants.proofs.later_laws.no_plan_however_late.Goals as goal

pub returns : goal.returns
returns c = none_ever
