use Rattle.std.proofs.Common.{arith}
use Rattle.instance_variants.proofs.Allowed.{end-le-latest}
use Rattle.instance_variants.proofs.slack.slack_of.Goals as goal

pub overflow_sub-result : goal.overflow_sub-result
overflow_sub-result c = omega (arith, end-le-latest c.args.instance.now c.args.plan.now c.requires.valid c.args.p c.requires.inside, c.end_of.ensures.value, c.latest_end.ensures)
