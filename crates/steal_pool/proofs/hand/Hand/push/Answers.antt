use Rattle.steal_pool.proofs.Balance.{pushes}
use Rattle.search_trees.specs.Task.{IsTask}
use Rattle.steal_pool.proofs.OneHand.{one_task}
use Rattle.steal_pool.proofs.hand.Hand.push.Goals as goal

pub push_as-requires-clause-pushes : goal.push_as-requires-clause-pushes
push_as-requires-clause-pushes g c = pushes _ _ _ _ (one_task (IsTask g.J.Searched.instance) c.args.task c.requires) c.args.self.now.owner c.args.self.now.live
