use Rattle.instance_variants.proofs.LaterPlans.{late_within, valid_own}
use Rattle.instance_variants.proofs.later_laws.lateness_is_enough.Goals as goal

pub returns-clause-most : goal.returns-clause-most
returns-clause-most c = late_within

pub returns-clause-enough : goal.returns-clause-enough
returns-clause-enough c = valid_own
