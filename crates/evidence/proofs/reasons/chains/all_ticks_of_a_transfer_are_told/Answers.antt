use Rattle.std.proofs.lemmas.Result.{IfOk-weaker}
use Rattle.evidence.proofs.ChainLines.{last_transfer}
use Rattle.evidence.proofs.reasons.chains.all_ticks_of_a_transfer_are_told.Goals as goal

-- the callee's value is that of a chain
pub returns : goal.returns
returns c = IfOk-weaker c.path_chain_reason.result _ _ (λ r told. last_transfer _ r told) c.path_chain_reason.ensures
