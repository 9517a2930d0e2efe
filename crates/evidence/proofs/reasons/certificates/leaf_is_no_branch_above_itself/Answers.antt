use Rattle.std.proofs.lemmas.Result.{IfOk-weaker}
use Rattle.evidence.proofs.TreeLines.{one_above}
use Rattle.evidence.proofs.reasons.certificates.leaf_is_no_branch_above_itself.Goals as goal

-- the callee's value has it
pub returns : goal.returns
returns c = IfOk-weaker c.proof_reason.result _ _ (λ r told. one_above _ _ r told) c.proof_reason.ensures
