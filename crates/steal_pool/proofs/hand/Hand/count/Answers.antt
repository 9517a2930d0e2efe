use Rattle.std.proofs.Common.{rules}
use Rattle.steal_pool.proofs.Balance.{learns}
use Rattle.steal_pool.proofs.OneHand.{counted_sources}
use Rattle.steal_pool.proofs.hand.Hand.count.Goals as goal

pub len_as-requires : goal.len_as-requires
len_as-requires g c = learns _ _ _

pub returns : goal.returns
returns g c = record {
  same = search rules;
  doors = search rules;
  within = search rules;
  sources = counted_sources _ _ c.len_as.ensures.same.2 c.args.self.now.owner c.args.self.now.live c.len_as.ensures.rule.2.1;
  pushed = search rules;
  taken = search rules;
}
