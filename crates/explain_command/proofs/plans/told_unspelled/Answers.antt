use Rattle.std.proofs.Common.{arith}
use Rattle.plan_commands.proofs.PlanLines.{line_behind}
use Rattle.explain_command.proofs.plans.told_unspelled.Goals as goal

pub overflow_add-counted : goal.overflow_add-counted
overflow_add-counted c =
    omega (arith, c.requires.most, line_behind c.args.instance.now c.nodes-nodes.ensures.instance c.args.bytes.now c.args.line c.args.wrong c.requires.at)

pub line_reason-reason-requires-clause-number : goal.line_reason-reason-requires-clause-number
line_reason-reason-requires-clause-number c =
    omega (arith, c.requires.most, line_behind c.args.instance.now c.nodes-nodes.ensures.instance c.args.bytes.now c.args.line c.args.wrong c.requires.at)
