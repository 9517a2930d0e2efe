use Rattle.plan_reasons.proofs.OneChain.{one_chain}
use Rattle.plan_reasons.proofs.path_laws.one_chain_is_told.Goals as goal

pub returns : goal.returns
returns c = one_chain
