use Rattle.std.proofs.Common.{arith}
use Rattle.ttp_model.proofs.PlanNumbers.{delay_small}
use Rattle.evidence.proofs.commands.searches.answer_is_no_later_than_the_start.Goals as goal

pub unreachable-requires : goal.unreachable-requires
unreachable-requires g c =
    let stopped = c.in-Stopped-default-default-None-default in
    let told = rw stopped.is at c.in_ok-delay.ensures.start in
    let none = rw stopped.best-is at told in
    omega (arith, none, delay_small c.args.instance.now c.args.start c.nodes-nodes.ensures.instance c.requires)
