use Rattle.step_logs.proofs.Logs.{advances_refl, advances_trans}
use Rattle.step_logs.proofs.acceleration.try_all.Goals as goal

pub tries-init : goal.tries-init
tries-init c = advances_refl _

pub returns-in_err-note : goal.returns-in_err-note
returns-in_err-note c = advances_trans _ _ _ c.tries.invariant c.try_step.ensures.advances

pub tries-preserved : goal.tries-preserved
tries-preserved c = advances_trans _ _ _ c.tries.invariant c.try_step.ensures.advances

pub returns-in_err-fact : goal.returns-in_err-fact
returns-in_err-fact c = advances_trans _ _ _ c.tries.invariant c.try_step.ensures.advances

pub tries-preserved-in-Continue-branch-3 : goal.tries-preserved-in-Continue-branch-3
tries-preserved-in-Continue-branch-3 c = advances_trans _ _ _ c.tries.invariant c.try_step.ensures.advances
