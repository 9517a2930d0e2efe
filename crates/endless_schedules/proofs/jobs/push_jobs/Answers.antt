use Rattle.std.proofs.Common.{◌∙◌, arith}
use Rattle.endless_schedules.specs.Unrolled.{job}
use Rattle.endless_schedules.proofs.Lists.{map_more}
use Rattle.endless_schedules.proofs.Pieces.{jobs_done}
use Rattle.endless_schedules.proofs.jobs.push_jobs.Goals as goal

pub loop-k-preserved : goal.loop-k-preserved
loop-k-preserved c = rw (c.in_ok-push.ensures.items, c.loop-k.invariant, c.in_ok-job.ensures) (map_more _ (job c.args.rates.now c.args.p) c.loop-k.k)

pub returns : goal.returns
returns c = c.loop-k.invariant ∙ jobs_done c.args.rates.now _ c.args.p c.loop-k.k (omega arith)
