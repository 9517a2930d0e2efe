use Rattle.std.proofs.Common.{◌<◌, length, arith}
use Rattle.plan_reasons.proofs.Holding.{is_last}
use Rattle.plan_reasons.proofs.path_parts.last_of.Goals as goal

pub returns : goal.returns
returns c =
    let inside : c.loop-p.last < length c.args.instance.now.processes = omega (arith, c.loop-p.invariant.inside, c.requires.all) in
    is_last c.args.instance.now c.processes-processes.ensures.instance c.args.ends.now c.requires c.loop-p.last inside
    (λ k within. c.loop-p.invariant.most k (omega (arith, within, c.loop-p-test.false))) c.loop-p.invariant.first
