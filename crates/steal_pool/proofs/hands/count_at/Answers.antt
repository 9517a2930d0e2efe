use Rattle.std.proofs.Common.{rules, ◌<◌, length}
use Rattle.steal_pool.proofs.Pools.{changed}
use Rattle.steal_pool.proofs.hands.count_at.Goals as goal

pub returns-clause-counts : goal.returns-clause-counts
returns-clause-counts g c =
    let small : c.args.place < length c.args.hands.now.items = search rules in
    changed _ _ _ _ _ small c.index_mut-hand.ensures.value c.count.ensures
