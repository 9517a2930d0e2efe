use Rattle.std.proofs.lemmas.Result.{IfOk-weaker}
use Rattle.evidence.proofs.StepLines.{both_times}
use Rattle.evidence.proofs.reasons.steps.what_was_known_is_told.Goals as goal

-- the callee's value has them
pub returns : goal.returns
returns c = IfOk-weaker c.told_step.result _ _ (λ x told. both_times _ _ _ _ _ _ x told) c.told_step.ensures.told
