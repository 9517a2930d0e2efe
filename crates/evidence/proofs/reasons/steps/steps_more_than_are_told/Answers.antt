use Rattle.std.proofs.lemmas.Result.{IfOk-weaker}
use Rattle.evidence.proofs.StepLines.{one_more}
use Rattle.evidence.proofs.reasons.steps.steps_more_than_are_told.Goals as goal

-- the callee's value has one more
pub returns : goal.returns
returns c is = IfOk-weaker c.leaf_reason.result _ _ (λ r told. one_more _ _ _ r is told) c.leaf_reason.ensures
