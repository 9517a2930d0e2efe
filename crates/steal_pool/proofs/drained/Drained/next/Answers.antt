use Rattle.steal_pool.specs.Hand.{all_pushed, all_taken}
use Rattle.steal_pool.proofs.Drains.{fewer_after, sourced_still}
use Rattle.steal_pool.proofs.drained.Drained.next.Goals as goal

pub returns-clause-fewer : goal.returns-clause-fewer
returns-clause-fewer g c =
    fewer_after c.args.self.now.hands.items c.next_of.new.hands.items c.next_of.result c.next_of.ensures.closed
    c.next_of.ensures.within c.next_of.ensures.pushed c.next_of.ensures.some

pub returns-clause-sourced : goal.returns-clause-sourced
returns-clause-sourced g c =
    let old = c.args.self.now.hands.items in
    let new = c.next_of.new.hands.items in
    sourced_still (all_pushed old) (all_pushed new) (all_taken old) (all_taken new)
    c.next_of.result c.next_of.ensures.pushed c.next_of.ensures.source c.next_of.ensures.some c.next_of.ensures.same
