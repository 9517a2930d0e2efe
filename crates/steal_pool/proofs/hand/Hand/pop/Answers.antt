use Rattle.std.specs.List.{flat_map}
use Rattle.steal_pool.specs.Door.{taken_by}
use Rattle.steal_pool.proofs.Balance.{pops, settles}
use Rattle.steal_pool.proofs.OneHand.{pop_some, pop_sources}
use Rattle.steal_pool.proofs.hand.Hand.pop.Goals as goal

pub pop_as-requires-clause-lifo : goal.pop_as-requires-clause-lifo
pop_as-requires-clause-lifo g c = λ _. pops _ _ _ c.args.self.now.live

pub pop_as-requires-clause-empty : goal.pop_as-requires-clause-empty
pop_as-requires-clause-empty g c = settles _ _ _

pub returns-clause-some : goal.returns-clause-some
returns-clause-some g c = pop_some _ _ _ (flat_map taken_by c.args.self.now.doors.items) _ _ c.pop_as.ensures.rule

pub returns-clause-sources : goal.returns-clause-sources
returns-clause-sources g c = pop_sources _ _ _ _ _ c.args.self.now.owner c.args.self.now.live c.pop_as.ensures.rule
