use Rattle.std.proofs.Common.{◌<◌, length, ap, arith}
use Rattle.evidence.proofs.Allowed.{to-last}
use Rattle.evidence.proofs.model.schedules.slack_up_to_the_last_end.Goals as goal

pub returns : goal.returns
returns c =
    let i = c.args.instance.now in
    let inside : c.args.p < length i.processes = omega (arith, c.if-p-processes.false, ap length c.processes.ensures.value) in
    λ nothing. rw c.slack_of.ensures (to-last i c.args.plan.now c.in-Ok.ensures.ok c.args.p inside nothing)
