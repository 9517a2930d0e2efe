use Rattle.instance_variants.proofs.LaterRules.{rules_later, same_instance}
use Rattle.instance_variants.proofs.later_laws.later_ends_keep_the_rules.Goals as goal

pub returns-clause-rules : goal.returns-clause-rules
returns-clause-rules c = λ i x w. rules_later i w x

pub returns-clause-same : goal.returns-clause-same
returns-clause-same c = same_instance
