use Rattle.evidence.proofs.Listed.{own_places}
use Rattle.evidence.proofs.model.node_tables.tables_of_frames.Goals as goal

pub returns : goal.returns
returns c = λ node inside. own_places c.args.instance.now c.args.plan.now _ node c.in_ok-of.ensures.tables inside
