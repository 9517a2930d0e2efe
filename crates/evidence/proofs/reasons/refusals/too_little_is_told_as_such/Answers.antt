use Rattle.std.proofs.lemmas.Result.{IfOk-weaker}
use Rattle.evidence.proofs.RefusalsTold.{little_told}
use Rattle.evidence.proofs.reasons.refusals.too_little_is_told_as_such.Goals as goal

pub returns : goal.returns
returns c bytes = IfOk-weaker c.rule_reason.result _ _ (λ told is. little_told _ told bytes is) c.rule_reason.ensures
