use Rattle.instance_variants.proofs.WithinPlans.{own_within, within_delay, within_own}
use Rattle.instance_variants.proofs.within_laws.plans_end_within.Goals as goal

pub returns : goal.returns
returns c = λ i d plan. (λ v. (within_own i d plan v, within_delay i d plan v), λ both. own_within i d plan both.0 both.1)
