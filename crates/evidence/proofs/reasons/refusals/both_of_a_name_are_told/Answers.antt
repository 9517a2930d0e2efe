use Rattle.std.proofs.lemmas.Result.{IfOk-weaker}
use Rattle.evidence.proofs.RefusalsTold.{both_told}
use Rattle.evidence.proofs.reasons.refusals.both_of_a_name_are_told.Goals as goal

pub returns : goal.returns
returns c = IfOk-weaker c.rule_reason.result _ _ (λ told is. both_told _ told is) c.rule_reason.ensures
