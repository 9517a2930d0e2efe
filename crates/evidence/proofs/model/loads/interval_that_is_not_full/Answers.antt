use Rattle.evidence.proofs.Intervals.{not_just_full}
use Rattle.evidence.proofs.model.loads.interval_that_is_not_full.Goals as goal

pub returns : goal.returns
returns c = λ a b full. not_just_full c.args.facts.now c.args.node a b _ c.node_load.ensures.answer full
