use Rattle.instance_variants.proofs.VariedRules.{rules_varied}
use Rattle.instance_variants.proofs.laws.rules_are_kept_with_windows.Goals as goal

pub returns : goal.returns
returns c = λ i v good is has. rules_varied i v is good has
