use Rattle.std.proofs.Common.{◌∙◌, ℕ, ◌<◌, length, arith}
use Rattle.ttp_model.specs.Totals.{total}
use Rattle.ttp_model.proofs.Totals.{total_next}
use Rattle.rates_model.specs.Cycles.{jobs_of}
use Rattle.endless_schedules.proofs.Found.{jobs_many}
use Rattle.endless_schedules.proofs.Lists.{grown_by}
use Rattle.endless_schedules.proofs.places.first_jobs.Goals as goal

pub returns-then-count-gt-MOST_PROCESSES-clause-err : goal.returns-then-count-gt-MOST_PROCESSES-clause-err
returns-then-count-gt-MOST_PROCESSES-clause-err c =
    let inside : c.loop-p.p < length c.args.rates.now.processes = rw c.processes-p-end.ensures.value at c.loop-p-test.true in
    jobs_many c.args.rates.now c.loop-p.p c.loop-p.count c.jobs_of-count.result inside c.loop-p.invariant.counted c.jobs_of-count.ensures.value c.if-count-gt-MOST_PROCESSES.true

pub loop-p-preserved : goal.loop-p-preserved
loop-p-preserved c =
    let next = total_next (jobs_of c.args.rates.now) c.loop-p.p in
    record {
      so_far =
          c.in_ok-push.ensures.items
          ∙ grown_by (λ (p : ℕ). total (jobs_of c.args.rates.now) p) _ _ c.loop-p.p c.loop-p.invariant.counted c.loop-p.invariant.so_far;
      counted = omega (arith, next, c.loop-p.invariant.counted, c.jobs_of-count.ensures.value);
      few = c.if-count-gt-MOST_PROCESSES.false;
    }
