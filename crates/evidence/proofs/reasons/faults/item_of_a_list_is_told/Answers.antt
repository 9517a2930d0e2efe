use Rattle.std.proofs.lemmas.Result.{IfOk-weaker}
use Rattle.evidence.proofs.TextFaults.{wrong_item}
use Rattle.evidence.proofs.reasons.faults.item_of_a_list_is_told.Goals as goal

pub returns : goal.returns
returns c top = IfOk-weaker c.text_reason.result _ _ (λ told is. wrong_item _ told top is) c.text_reason.ensures
