use Rattle.plan_reasons.proofs.LateEnds.{none_valid}
use Rattle.plan_reasons.proofs.path_laws.late_processes_leave_no_plan.Goals as goal

pub returns : goal.returns
returns c = none_valid
