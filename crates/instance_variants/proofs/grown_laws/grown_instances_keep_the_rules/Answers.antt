use Rattle.instance_variants.proofs.GrownPlans.{grown_lawful, leaves_windows}
use Rattle.instance_variants.proofs.grown_laws.grown_instances_keep_the_rules.Goals as goal

pub returns-clause-rules : goal.returns-clause-rules
returns-clause-rules c = grown_lawful

pub returns-clause-within : goal.returns-clause-within
returns-clause-within c = λ i plan growth wi w within. leaves_windows i growth wi plan w within
