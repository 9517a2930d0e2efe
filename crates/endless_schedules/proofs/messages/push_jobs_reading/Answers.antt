use Rattle.std.proofs.Common.{◌∙◌, arith, sym}
use Rattle.rates_model.specs.Reads.{reads_now}
use Rattle.endless_schedules.specs.Stores.{job_index}
use Rattle.endless_schedules.proofs.Lists.{kept_behind, left_behind}
use Rattle.endless_schedules.proofs.Pieces.{reading_done}
use Rattle.endless_schedules.proofs.messages.push_jobs_reading.Goals.{then-reads_now+in_ok-push, else-reads_now}
use Rattle.endless_schedules.proofs.messages.push_jobs_reading.Goals as goal

pub loop-j-preserved : goal.loop-j-preserved
loop-j-preserved c =
    let rho = c.args.rates.now in
    let reads = reads_now rho c.args.message.now.sender c.args.q c.args.message.now.delay c.args.k in
    elim c.if-reads_now.branch [
      | then-reads_now+in_ok-push w ↦
          rw (w.list-is, w.in_ok-push.ensures.items)
          (kept_behind _ (job_index rho c.args.q) reads _ c.loop-j.j c.loop-j.invariant _ (sym c.reads_now.ensures ∙ w.if-reads_now.true) w.of_job.ensures.index)
      | else-reads_now w ↦
          rw w.list-is (left_behind _ (job_index rho c.args.q) reads _ c.loop-j.j c.loop-j.invariant (sym c.reads_now.ensures ∙ w.if-reads_now.false))
    ]

pub returns : goal.returns
returns c = c.loop-j.invariant ∙ reading_done c.args.rates.now _ c.args.message.now c.args.k c.args.q c.loop-j.j (omega arith)
