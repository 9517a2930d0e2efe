use Rattle.std.proofs.lemmas.Result.{IfOk-weaker}
use Rattle.evidence.proofs.TextFaults.{past_the_largest}
use Rattle.evidence.proofs.reasons.faults.number_past_the_largest_is_told.Goals as goal

pub returns : goal.returns
returns c top = IfOk-weaker c.text_reason.result _ _ (λ told is. past_the_largest _ told top is) c.text_reason.ensures
