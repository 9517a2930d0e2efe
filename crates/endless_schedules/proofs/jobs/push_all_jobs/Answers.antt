use Rattle.endless_schedules.specs.Unrolled.{jobs}
use Rattle.endless_schedules.proofs.Lists.{pieces_more}
use Rattle.endless_schedules.proofs.jobs.push_all_jobs.Goals as goal

pub loop-p-preserved : goal.loop-p-preserved
loop-p-preserved c = rw (c.in_ok-push_jobs.ensures, c.loop-p.invariant) (pieces_more _ (jobs c.args.rates.now) c.loop-p.p)
