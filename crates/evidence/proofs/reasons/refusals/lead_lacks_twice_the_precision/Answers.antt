use Rattle.std.proofs.lemmas.Result.{IfOk-weaker}
use Rattle.evidence.proofs.RefusalsTold.{lead_told}
use Rattle.evidence.proofs.reasons.refusals.lead_lacks_twice_the_precision.Goals as goal

pub returns : goal.returns
returns c lead precision = IfOk-weaker c.rule_reason.result _ _ (λ told is. lead_told _ told lead precision is) c.rule_reason.ensures
