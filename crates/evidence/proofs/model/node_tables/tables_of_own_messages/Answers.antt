use Rattle.evidence.proofs.Listed.{own_messages}
use Rattle.evidence.proofs.model.node_tables.tables_of_own_messages.Goals as goal

pub returns : goal.returns
returns c = λ node inside. own_messages c.args.instance.now c.args.plan.now _ node c.in_ok-of.ensures.tables inside
