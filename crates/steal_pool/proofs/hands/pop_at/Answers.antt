use Rattle.std.proofs.Common.{rules, ◌<◌, length}
use Rattle.steal_pool.proofs.Pools.{changed}
use Rattle.steal_pool.proofs.hands.pop_at.Goals as goal

pub returns-in-Some-clause-some : goal.returns-in-Some-clause-some
returns-in-Some-clause-some g c =
    let small : c.args.place < length c.args.hands.now.items = search rules in
    changed _ _ _ _ _ small c.index_mut-hand.ensures.value
    (record {
      same = c.pop.ensures.same;
      doors = c.pop.ensures.doors;
      pushed = c.pop.ensures.pushed;
      within = c.in-Some.ensures.within;
      sources
          = c.in-Some.ensures.sources;
      taken = c.in-Some.ensures.some;
    })

pub returns-in-None-clause-none : goal.returns-in-None-clause-none
returns-in-None-clause-none g c =
    let small : c.args.place < length c.args.hands.now.items = search rules in
    changed _ _ _ _ _ small c.index_mut-hand.ensures.value
    (record {
      same = c.pop.ensures.same;
      doors = c.pop.ensures.doors;
      pushed = c.pop.ensures.pushed;
      taken = c.in-None.ensures.none.0;
      own_taken
          = c.in-None.ensures.none.1;
      balance = c.in-None.ensures.none.2;
    })
