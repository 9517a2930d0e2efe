use Rattle.std.proofs.Common.{rules, ◌<◌, length}
use Rattle.crossbeam_deque.proofs.Lists.{at_index}
use Rattle.steal_pool.proofs.Pools.{changed}
use Rattle.steal_pool.proofs.hands.close_at.Goals as goal

pub close-requires : goal.close-requires
close-requires g c =
    let small : c.args.place < length c.args.hands.now.items = search rules in
    c.requires.leads _ (at_index _ _ _ small c.index_mut-hand.ensures.value)

pub returns-clause-closes : goal.returns-clause-closes
returns-clause-closes g c =
    let small : c.args.place < length c.args.hands.now.items = search rules in
    changed _ _ _ _ _ small c.index_mut-hand.ensures.value c.close.ensures
