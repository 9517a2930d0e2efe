use Rattle.step_logs.proofs.Logs.{advances_refl, advances_trans}
use Rattle.step_logs.proofs.acceleration.follow.Goals as goal

pub turns-init : goal.turns-init
turns-init c = advances_refl _

pub returns-in_err-try_all : goal.returns-in_err-try_all
returns-in_err-try_all c = advances_trans _ _ _ c.turns.invariant c.try_all.ensures

pub returns-in_err-next : goal.returns-in_err-next
returns-in_err-next c = advances_trans _ _ _ c.turns.invariant c.try_all.ensures

pub returns-then-closed : goal.returns-then-closed
returns-then-closed c = advances_trans _ _ _ c.turns.invariant c.try_all.ensures

pub turns-preserved : goal.turns-preserved
turns-preserved c = advances_trans _ _ _ c.turns.invariant c.try_all.ensures
