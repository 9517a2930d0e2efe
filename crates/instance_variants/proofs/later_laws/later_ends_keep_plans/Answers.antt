use Rattle.instance_variants.proofs.LaterPlans.{none_sooner, plan_later}
use Rattle.instance_variants.proofs.later_laws.later_ends_keep_plans.Goals as goal

pub returns-clause-plan : goal.returns-clause-plan
returns-clause-plan c = plan_later

pub returns-clause-none : goal.returns-clause-none
returns-clause-none c = none_sooner
