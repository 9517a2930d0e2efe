use Rattle.std.proofs.lemmas.Result.{IfOk-weaker}
use Rattle.evidence.proofs.RefusalsTold.{second_told}
use Rattle.evidence.proofs.reasons.refusals.receiver_that_stands_twice_is_told.Goals as goal

pub returns : goal.returns
returns c receivers = IfOk-weaker c.rule_reason.result _ _ (λ told is. second_told _ told receivers is) c.rule_reason.ensures
