use Rattle.std.proofs.Common.{rules, ◌<◌, length, refl}
use Rattle.steal_pool.proofs.Pools.{changed}
use Rattle.steal_pool.proofs.hands.add_at.Goals as goal

pub returns-clause-adds : goal.returns-clause-adds
returns-clause-adds g c =
    let small : c.args.place < length c.args.hands.now.items = search rules in
    changed _ _ _ _ _ small c.index_mut-hand.ensures.value
    (record { number = refl; own = refl; out = refl; pushed = refl; own_taken = refl; doors = search rules })
