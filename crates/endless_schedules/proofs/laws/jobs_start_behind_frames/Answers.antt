use Rattle.endless_schedules.proofs.Behind.{starts_behind, stores_behind}
use Rattle.endless_schedules.proofs.laws.jobs_start_behind_frames.Goals as goal

pub returns-clause-jobs : goal.returns-clause-jobs
returns-clause-jobs c = λ rho plan trail e. starts_behind rho plan trail e

pub returns-clause-stores : goal.returns-clause-stores
returns-clause-stores c = λ rho plan trail e. stores_behind rho plan trail e
