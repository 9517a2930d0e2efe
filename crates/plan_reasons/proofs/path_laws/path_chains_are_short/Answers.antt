use Rattle.std.proofs.Common.{Some}
use Rattle.plan_reasons.proofs.PathShort.{short}
use Rattle.plan_reasons.proofs.path_laws.path_chains_are_short.Goals as goal

pub returns : goal.returns
returns c = λ i parts w chain. short i chain.ends w (Some chain.last) parts chain.leads_back
