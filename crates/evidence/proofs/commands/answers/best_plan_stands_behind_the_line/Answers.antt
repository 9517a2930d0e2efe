use Rattle.evidence.proofs.SearchesTold.{plan_behind}
use Rattle.evidence.proofs.commands.answers.best_plan_stands_behind_the_line.Goals as goal

pub returns : goal.returns
returns g c = plan_behind _ _ _ _ _ _ _ _ c.solve_run.ensures.answer
