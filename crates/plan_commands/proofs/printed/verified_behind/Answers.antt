use Rattle.plan_commands.proofs.Prints.{can_be_behind}
use Rattle.plan_commands.proofs.printed.verified_behind.Goals as goal

pub told_behind-requires : goal.told_behind-requires
told_behind-requires c = can_be_behind c.args.instance c.args.rest.now c.nodes-nodes.ensures.instance c.in-Err.fault c.in-Err.ensures.judged
