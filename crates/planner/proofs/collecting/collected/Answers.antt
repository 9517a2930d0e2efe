use Rattle.planner.proofs.Pools.{pool_same}
use Rattle.planner.proofs.Collected.{ends_searching}
use Rattle.planner.proofs.collecting.collected.Goals as goal

pub drain_into-requires-clause-pool : goal.drain_into-requires-clause-pool
drain_into-requires-clause-pool g c = pool_same c.requires.ended.2.begun c.args.crew.hands.items c.requires.ended.2.gathers.same c.requires.ended.2.pool

pub returns-clause-searching : goal.returns-clause-searching
returns-clause-searching g c = λ aims given ended.
    ends_searching g.J.Searched.instance aims c.args.word c.args.crew c.requires.instance given ended c.close.result c.close.ensures.least c.close.ensures.seen c.drain_into.new.tasks.items c.in_ok-drain_into.ensures.tasks c.in_ok-drain_into.ensures.left
