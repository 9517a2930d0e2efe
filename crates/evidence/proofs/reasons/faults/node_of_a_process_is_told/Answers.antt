use Rattle.std.proofs.lemmas.Result.{IfOk-weaker}
use Rattle.evidence.proofs.TextFaults.{no_node}
use Rattle.evidence.proofs.reasons.faults.node_of_a_process_is_told.Goals as goal

pub returns : goal.returns
returns c top = IfOk-weaker c.text_reason.result _ _ (λ told is. no_node _ told top is) c.text_reason.ensures
