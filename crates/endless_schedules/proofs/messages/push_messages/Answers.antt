use Rattle.std.proofs.Common.{◌∙◌, arith}
use Rattle.endless_schedules.specs.Unrolled.{sent_of}
use Rattle.endless_schedules.proofs.Found.{sender_jobs}
use Rattle.endless_schedules.proofs.Lists.{pieces_more}
use Rattle.endless_schedules.proofs.Pieces.{messages_done}
use Rattle.endless_schedules.proofs.messages.push_messages.Goals as goal

pub loop-k-preserved : goal.loop-k-preserved
loop-k-preserved c = rw (c.in_ok-push_message.ensures, c.loop-k.invariant) (pieces_more _ (sent_of c.args.rates.now c.args.m) c.loop-k.k)

pub returns : goal.returns
returns c =
    let jobs = sender_jobs c.args.rates.now c.args.m _ c.message_at.ensures.value c.jobs_of-jobs.result c.jobs_of-jobs.ensures.value in
    c.loop-k.invariant ∙ messages_done c.args.rates.now _ c.args.m c.loop-k.k (omega (arith, jobs, c.loop-k-test.false, c.loop-k.auto.k-end))
