use Rattle.steal_pool.proofs.Balance.{forks}
use Rattle.steal_pool.proofs.hand.Hand.open.Goals as goal

pub another-ticket-requires : goal.another-ticket-requires
another-ticket-requires g c = forks _ _ _ c.args.self.now.owner
