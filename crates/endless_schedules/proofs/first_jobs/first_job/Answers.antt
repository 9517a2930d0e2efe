use Rattle.std.proofs.Common.{arith}
use Rattle.ttp_model.proofs.Totals.{total_next}
use Rattle.rates_model.specs.Cycles.{jobs_of}
use Rattle.endless_schedules.proofs.first_jobs.first_job.Goals as goal

pub loop-before-preserved : goal.loop-before-preserved
loop-before-preserved c =
    let next = total_next (jobs_of c.args.rates.now) c.loop-before.before in
    record {
      so_far = omega (arith, next, c.loop-before.invariant.so_far, c.jobs_of.ensures.value);
      small = omega (arith, c.loop-before.invariant.small, c.jobs_of.ensures.few);
    }

pub returns-clause-small : goal.returns-clause-small
returns-clause-small c =
    omega (arith, c.loop-before.invariant.small, c.loop-before.auto.before-end, c.requires, c.processes-processes.ensures.keeps.limits.processes)
