use Rattle.steal_pool.proofs.Balance.{takes}
use Rattle.steal_pool.proofs.door.Door.steal.Goals as goal

pub steal_as-requires-clause-takes : goal.steal_as-requires-clause-takes
steal_as-requires-clause-takes g c = takes _ _ _ c.args.self.now.live
