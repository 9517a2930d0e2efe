use Rattle.std.proofs.Common.{rules, arith, ◌≡◌, ◌≤◌, length, vec_len}
use Rattle.steal_pool.proofs.Drains.{next_closed, next_within, next_pushed, next_source, next_taken, next_empty, all_balanced}
use Rattle.steal_pool.proofs.hands.next_of.Goals as goal

pub returns-in-Some-clause-closed : goal.returns-in-Some-clause-closed
returns-in-Some-clause-closed g c = next_closed _ _ _ _ _ c.loop-place.invariant.1 c.in-Some.ensures.some

pub returns-in-Some-clause-pushed : goal.returns-in-Some-clause-pushed
returns-in-Some-clause-pushed g c = next_pushed _ _ _ _ _ c.loop-place.invariant.1 c.in-Some.ensures.some

pub returns-in-Some-clause-some : goal.returns-in-Some-clause-some
returns-in-Some-clause-some g c = next_taken _ _ _ _ _ c.loop-place.invariant.1 c.in-Some.ensures.some

pub loop-place-preserved : goal.loop-place-preserved
loop-place-preserved g c = (search rules, next_empty _ _ _ _ c.loop-place.invariant.1 c.in_default.ensures.none)

pub returns-clause-none : goal.returns-clause-none
returns-clause-none g c =
    let many : vec_len c.loop-place.hands ≡ length c.loop-place.hands.items = search rules in
    let same = c.loop-place.invariant.0 in
    let long : length c.loop-place.hands.items ≤ c.loop-place.place = search (rules, arith) in
    all_balanced _ _ _ long c.loop-place.invariant.1

pub returns-in-Some-clause-within : goal.returns-in-Some-clause-within
returns-in-Some-clause-within g c = next_within _ _ _ _ _ c.loop-place.invariant.1 c.in-Some.ensures.some

pub returns-in-Some-clause-source : goal.returns-in-Some-clause-source
returns-in-Some-clause-source g c = next_source _ _ _ _ _ c.loop-place.invariant.1 c.in-Some.ensures.some
