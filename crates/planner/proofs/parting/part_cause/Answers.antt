use Rattle.planner.proofs.PartTrees.{part_end}
use Rattle.planner.proofs.parting.part_cause.Goals as goal

pub returns-clause-end : goal.returns-clause-end
returns-clause-end c = λ budget worked. part_end budget c.args.search.now.pieces.items c.args.why worked
