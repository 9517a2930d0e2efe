use Rattle.evidence.proofs.Intervals.{frames_too_small, frames_too_small_on_one}
use Rattle.evidence.proofs.model.loads.frames_that_are_too_small.Goals as goal

pub returns-clause-on_all : goal.returns-clause-on_all
returns-clause-on_all c = λ a b there span bytes. frames_too_small c.args.facts.now c.args.node a b _ c.frame_load.ensures.answer there span bytes

pub returns-clause-on_one : goal.returns-clause-on_one
returns-clause-on_one c = λ k a b there span bytes. frames_too_small_on_one c.args.facts.now c.args.node a b k _ c.frame_load.ensures.answer there span bytes
