use Rattle.step_logs.proofs.Logs.{advances_refl, advances_trans}
use Rattle.step_logs.proofs.trim.try_marked.Goals as goal
use Rattle.step_logs.proofs.trim.try_marked.Goals.{then-is_marked+in_ok-append_copy, else-is_marked}

pub tries-init : goal.tries-init
tries-init g c = advances_refl _

pub returns-in_err-append_copy : goal.returns-in_err-append_copy
returns-in_err-append_copy g c = advances_trans _ _ _ c.tries.invariant c.append_copy.ensures.advances

pub tries-preserved : goal.tries-preserved
tries-preserved g c = elim c.if-is_marked.branch [
  | then-is_marked+in_ok-append_copy w ↦ rw w.journal-is (advances_trans _ _ _ c.tries.invariant w.append_copy.ensures.advances)
  | else-is_marked w ↦ rw w.journal-is c.tries.invariant
]
