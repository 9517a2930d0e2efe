use Rattle.instance_variants.proofs.CutRules.{keeps_rules}
use Rattle.instance_variants.proofs.cut_laws.cut_instances_keep_the_rules.Goals as goal

pub returns : goal.returns
returns c = keeps_rules
