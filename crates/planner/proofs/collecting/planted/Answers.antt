use Rattle.std.proofs.Common.{rules, ◌<◌, length, slice_set}
use Rattle.search_workers.proofs.Pools.{changed}
use Rattle.planner.specs.Crew.{IsGiven}
use Rattle.planner.proofs.Pools.{pool_given, pushed_given, taken_given}
use Rattle.planner.proofs.collecting.planted.Goals as goal

pub returns-in-Ok-clause-pool : goal.returns-in-Ok-clause-pool
returns-in-Ok-clause-pool g c =
    let hands = c.in_ok-hands.hands.items in
    let some_hand : 0 < length hands = search rules in
    let change = changed hands 0 (IsGiven c.args.tasks.items) c.index_mut-hand.result.now c.give.new.hand some_hand c.index_mut-hand.ensures.value c.in-Ok.ensures.given in
    pool_given hands (slice_set hands 0 c.give.new.hand) 0 c.args.tasks.items change c.in_ok-hands.ensures.pool

pub returns-in-Ok-clause-pushed : goal.returns-in-Ok-clause-pushed
returns-in-Ok-clause-pushed g c =
    let hands = c.in_ok-hands.hands.items in
    let some_hand : 0 < length hands = search rules in
    let change = changed hands 0 (IsGiven c.args.tasks.items) c.index_mut-hand.result.now c.give.new.hand some_hand c.index_mut-hand.ensures.value c.in-Ok.ensures.given in
    pushed_given hands (slice_set hands 0 c.give.new.hand) 0 c.args.tasks.items change c.in_ok-hands.ensures.pushed

pub returns-in-Ok-clause-taken : goal.returns-in-Ok-clause-taken
returns-in-Ok-clause-taken g c =
    let hands = c.in_ok-hands.hands.items in
    let some_hand : 0 < length hands = search rules in
    let change = changed hands 0 (IsGiven c.args.tasks.items) c.index_mut-hand.result.now c.give.new.hand some_hand c.index_mut-hand.ensures.value c.in-Ok.ensures.given in
    taken_given hands (slice_set hands 0 c.give.new.hand) 0 c.args.tasks.items change c.in_ok-hands.ensures.taken
