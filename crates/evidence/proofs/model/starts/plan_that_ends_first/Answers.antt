use Rattle.std.proofs.Common.{arith}
use Rattle.evidence.proofs.Earliest.{no_later}
use Rattle.evidence.proofs.model.starts.plan_that_ends_first.Goals as goal

pub returns : goal.returns
returns c =
    let i = c.args.instance.now in
    let laws = c.delay_is_an_end.ensures in
    λ other valid inside. no_later i _ _ other c.in_ok-earliest.ensures valid inside (laws.each i)
    (λ plan. laws.last i plan (omega (arith, c.processes-processes.ensures.instance.limits.processes_least)))
