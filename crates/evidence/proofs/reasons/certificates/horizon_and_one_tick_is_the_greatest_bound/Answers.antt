use Rattle.std.proofs.lemmas.Result.{IfOk-weaker}
use Rattle.evidence.proofs.TreeLines.{greatest}
use Rattle.evidence.proofs.reasons.certificates.horizon_and_one_tick_is_the_greatest_bound.Goals as goal

-- the callee's value has both
pub returns : goal.returns
returns c = IfOk-weaker c.cert_reason.result _ _ (λ r told. greatest _ _ r told) c.cert_reason.ensures
