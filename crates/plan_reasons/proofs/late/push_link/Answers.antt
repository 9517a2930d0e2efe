use Rattle.std.proofs.Common.{arith}
use Rattle.plan_facts.proofs.Walks.{chain_small}
use Rattle.plan_reasons.proofs.late.push_link.Goals as goal

pub push_late-requires-clause-small : goal.push_late-requires-clause-small
push_late-requires-clause-small c =
    let before = c.link_at-link.result.before in
    let longest = c.requires.longest.each before c.link_at-link.ensures.before in
    omega (arith, chain_small c.args.instance.now c.processes-processes.ensures.instance before _ longest.reached)
