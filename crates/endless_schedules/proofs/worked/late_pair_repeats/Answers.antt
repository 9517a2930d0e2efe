use Rattle.std.proofs.Common.{sym, subst}
use Rattle.ttp_model.specs.Plans.{IsValid}
use Rattle.ttp_model.specs.Rules.{IsInstance}
use Rattle.endless_schedules.specs.Unrolled.{unrolled}
use Rattle.endless_schedules.specs.Worked.{late_pair, late_plan}
use Rattle.endless_schedules.proofs.Sound.{repeats_rightly}
use Rattle.endless_schedules.proofs.WorkedJobs.{late_jobs_is_instance, late_pair_is_unrolled}
use Rattle.endless_schedules.proofs.WorkedPlan.{late_plan_is_valid}
use Rattle.endless_schedules.proofs.WorkedRules.{late_pair_is_rates}
use Rattle.endless_schedules.proofs.worked.late_pair_repeats.Goals as goal

is_instance : IsInstance (unrolled late_pair)
is_instance = subst IsInstance (sym late_pair_is_unrolled) late_jobs_is_instance

is_valid : IsValid (unrolled late_pair) late_plan
is_valid = subst (λ i. IsValid i late_plan) (sym late_pair_is_unrolled) late_plan_is_valid

pub returns-clause-rates : goal.returns-clause-rates
returns-clause-rates c = late_pair_is_rates

pub returns-clause-unrolled : goal.returns-clause-unrolled
returns-clause-unrolled c = late_pair_is_unrolled

pub returns-clause-instance : goal.returns-clause-instance
returns-clause-instance c = is_instance

pub returns-clause-valid : goal.returns-clause-valid
returns-clause-valid c = is_valid

pub returns-clause-endless : goal.returns-clause-endless
returns-clause-endless c = (repeats_rightly late_pair late_plan late_pair_is_rates is_instance is_valid).1
