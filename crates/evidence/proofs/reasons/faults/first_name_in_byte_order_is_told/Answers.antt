use Rattle.std.proofs.lemmas.Result.{IfOk-weaker}
use Rattle.evidence.proofs.TextFaults.{first_name}
use Rattle.evidence.proofs.reasons.faults.first_name_in_byte_order_is_told.Goals as goal

pub returns : goal.returns
returns c top = IfOk-weaker c.text_reason.result _ _ (λ told is. first_name _ told top is) c.text_reason.ensures
