use Rattle.plan_questions.proofs.Told.{conflict_shows}
use Rattle.plan_questions.proofs.conflicts.laws.conflicts_leave_no_plan.Goals as goal

pub returns : goal.returns
returns c = conflict_shows
