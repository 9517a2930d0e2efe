use Rattle.std.proofs.lemmas.Result.{IfOk-weaker}
use Rattle.evidence.proofs.TextFaults.{nearer}
use Rattle.evidence.proofs.reasons.faults.nearer_name_is_meant.Goals as goal

pub returns : goal.returns
returns c top = IfOk-weaker c.text_reason.result _ _ (λ told is. nearer _ told top is) c.text_reason.ensures
