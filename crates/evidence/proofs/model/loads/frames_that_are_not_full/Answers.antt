use Rattle.evidence.proofs.Intervals.{frames_not_just_full}
use Rattle.evidence.proofs.model.loads.frames_that_are_not_full.Goals as goal

pub returns : goal.returns
returns c = λ a b full. frames_not_just_full c.args.facts.now c.args.node a b _ c.frame_load.ensures.answer full
