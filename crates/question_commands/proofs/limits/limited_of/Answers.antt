use Rattle.question_commands.proofs.Naming.{named_there}
use Rattle.question_commands.proofs.LimitAnswers.{limited_by}
use Rattle.question_commands.proofs.limits.limited_of.Goals as goal

pub limit_by-requires-after_bounds : goal.limit_by-requires-after_bounds
limit_by-requires-after_bounds g c = λ κs alive. rw c.as_slice.ensures.value (named_there _ _ _ c.in_ok-processes.ensures)

pub returns : goal.returns
returns g c = limited_by _ _ _ _ _ c.in_ok-processes.ensures _ (rw c.as_slice.ensures.value at c.limit_by.ensures)
