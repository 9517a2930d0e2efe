use Rattle.std.proofs.lemmas.Result.{IfOk-weaker}
use Rattle.std.proofs.Common.{subst, sym}
use Rattle.evidence.specs.Parts.{IsPartOf}
use Rattle.evidence.proofs.Changed.{both_starts}
use Rattle.evidence.proofs.model.changes.starts_before_and_after.Goals as goal

-- the callee's text has it
pub returns : goal.returns
returns c name before after there first second other =
    IfOk-weaker c.changes_of.result _ _
    (λ changes is. subst (IsPartOf _) (sym is) (both_starts _ _ name before after there first second other)) c.changes_of.ensures.text
