use Rattle.command_streams.proofs.Outcomes.{ended_later}
use Rattle.plan_commands.specs.LossWords.{bytes_of}
use Rattle.plan_commands.specs.Traces.{IsReplayRefused, IsTraceText}
use Rattle.plan_commands.specs.Verdicts.{IsVerified}
use Rattle.plan_commands.proofs.LossLists.{well_formed}
use Rattle.plan_commands.proofs.Tellings.{told_of_readers}
use Rattle.plan_commands.proofs.Traced.{refused_as_trace, refused_as_verdict}
use Rattle.plan_commands.proofs.replay.replay_run.Goals as goal

pub returns-in-Err-verified_of_readers-clause-answer : goal.returns-in-Err-verified_of_readers-clause-answer
returns-in-Err-verified_of_readers-clause-answer g c =
    refused_as_verdict (bytes_of c.args.words.now) _ c.in-Err-verified_of_readers.fault _ _
    (well_formed (bytes_of c.args.words.now) c.in-Ok.losses.items c.in-Ok.ensures) c.in-Err-verified_of_readers.ensures.judged

pub returns-in-Ok-trace_text-clause-answer : goal.returns-in-Ok-trace_text-clause-answer
returns-in-Ok-trace_text-clause-answer g c =
    let trace = rw c.as_slice.ensures.value at c.in-Ok-trace_text.ensures.judged in
    told_of_readers IsVerified (IsTraceText (bytes_of c.args.words.now)) (IsReplayRefused (bytes_of c.args.words.now))
    _ _ c.in-Ok-verified_of_readers.verified _ _ _ _ c.in-Ok-verified_of_readers.ensures.judged
    (record { losses = c.in-Ok.losses.items; spelled = c.in-Ok.ensures; trace = trace })
    (rw c.as_slice-in-Ok-trace_text.ensures.value at c.end_with.ensures)

pub returns-clause-answer : goal.returns-clause-answer
returns-clause-answer g c =
    let refused = rw c.as_slice.ensures.value at c.in-Err-trace_text.ensures.judged in
    refused_as_trace (bytes_of c.args.words.now) _ c.in-Err-trace_text.fault _ _ c.in-Ok.losses.items c.in-Ok-verified_of_readers.verified
    c.in-Ok.ensures c.in-Ok-verified_of_readers.ensures.judged refused

pub returns-in-Ok-trace_text-clause-order : goal.returns-in-Ok-trace_text-clause-order
returns-in-Ok-trace_text-clause-order g c = ended_later _ _ _ _ _ c.end_with.ensures
