use Rattle.std.proofs.lemmas.Result.{IfOk-weaker}
use Rattle.evidence.proofs.StepLines.{last_start}
use Rattle.evidence.proofs.reasons.steps.latest_start_leaves_time.Goals as goal

-- the callee's value has it
pub returns : goal.returns
returns c = IfOk-weaker c.told_step.result _ _ (λ x told. last_start _ _ _ _ _ _ x told) c.told_step.ensures.told
