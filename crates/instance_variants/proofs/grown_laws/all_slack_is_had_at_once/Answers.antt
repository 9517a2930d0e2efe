use Rattle.instance_variants.proofs.GrownPlans.{valid_allows, within_valid}
use Rattle.instance_variants.proofs.grown_laws.all_slack_is_had_at_once.Goals as goal

pub returns : goal.returns
returns c = λ i plan growth wi w. (valid_allows i growth wi plan w, within_valid i growth wi plan w)
