use Rattle.steal_pool.proofs.Balance.{merges}
use Rattle.steal_pool.proofs.hand.Hand.close.Goals as goal

pub absorb-requires-clause-rule : goal.absorb-requires-clause-rule
absorb-requires-clause-rule g c = merges _ _ _ _ _ c.args.self.now.owner c.args.self.now.live c.args.door.guest c.args.door.live
