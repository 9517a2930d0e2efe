use Rattle.std.proofs.lemmas.Result.{IfOk-weaker}
use Rattle.evidence.proofs.RefusalsTold.{first_told}
use Rattle.evidence.proofs.reasons.refusals.first_waits_for_the_last.Goals as goal

pub returns : goal.returns
returns c p q r cycle = IfOk-weaker c.rule_reason.result _ _ (λ told is. first_told _ told p q r _ cycle is) c.rule_reason.ensures
