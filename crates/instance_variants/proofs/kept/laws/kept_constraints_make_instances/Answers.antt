use Rattle.instance_variants.proofs.KeptLaws.{rules_kept}
use Rattle.instance_variants.proofs.Whole.{all_is_whole}
use Rattle.instance_variants.proofs.kept.laws.kept_constraints_make_instances.Goals as goal

pub returns-clause-rules : goal.returns-clause-rules
returns-clause-rules c = rules_kept

pub returns-clause-all : goal.returns-clause-all
returns-clause-all c = all_is_whole
