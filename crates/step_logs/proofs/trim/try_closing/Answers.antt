use Rattle.step_logs.proofs.Logs.{advances_trans}
use Rattle.step_logs.proofs.trim.try_closing.Goals as goal

pub returns-in_ok-append_copy : goal.returns-in_ok-append_copy
returns-in_ok-append_copy c = advances_trans _ _ _ c.try_marked.ensures c.append_copy.ensures.advances

pub returns-in_default : goal.returns-in_default
returns-in_default c = c.try_marked.ensures

pub returns-in_err-append_copy : goal.returns-in_err-append_copy
returns-in_err-append_copy c = advances_trans _ _ _ c.try_marked.ensures c.append_copy.ensures.advances
