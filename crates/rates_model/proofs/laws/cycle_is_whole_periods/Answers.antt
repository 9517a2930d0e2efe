use Rattle.rates_model.proofs.Periods.{cycle_least, jobs_whole}
use Rattle.rates_model.proofs.laws.cycle_is_whole_periods.Goals as goal

pub returns-clause-least : goal.returns-clause-least
returns-clause-least c = cycle_least _ c.processes-processes.ensures.keeps

pub returns-clause-jobs : goal.returns-clause-jobs
returns-clause-jobs c = λ p inside. jobs_whole _ c.processes-processes.ensures.keeps p inside
