use Rattle.std.proofs.lemmas.Result.{IfOk-weaker}
use Rattle.evidence.proofs.TextFaults.{odd_key}
use Rattle.evidence.proofs.reasons.faults.key_that_is_odd_is_told.Goals as goal

pub returns : goal.returns
returns c d e top = IfOk-weaker c.text_reason.result _ _ (λ told is. odd_key _ told d e top is) c.text_reason.ensures
