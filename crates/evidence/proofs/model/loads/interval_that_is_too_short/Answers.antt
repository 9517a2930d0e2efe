use Rattle.evidence.proofs.Intervals.{too_short}
use Rattle.evidence.proofs.model.loads.interval_that_is_too_short.Goals as goal

pub returns : goal.returns
returns c = λ a b there span load. too_short c.args.facts.now c.args.node a b _ c.node_load.ensures.answer there span load
