use Rattle.std.proofs.Common.{arith}
use Rattle.evidence.proofs.Judged.{refused}
use Rattle.evidence.proofs.model.plans.first_node_once_more.Goals as goal

pub returns : goal.returns
returns c = λ two same. refused c.args.instance.now c.args.plan.now _ c.check.ensures.ok (λ valid. (valid.order.each 1 two).first 0 (omega arith) same)
