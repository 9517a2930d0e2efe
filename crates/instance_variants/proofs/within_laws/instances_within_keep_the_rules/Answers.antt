use Rattle.instance_variants.proofs.WithinPlans.{within_lawful, within_most}
use Rattle.instance_variants.proofs.within_laws.instances_within_keep_the_rules.Goals as goal

pub returns-clause-rules : goal.returns-clause-rules
returns-clause-rules c = within_lawful

pub returns-clause-same : goal.returns-clause-same
returns-clause-same c = within_most
