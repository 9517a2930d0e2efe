use Rattle.std.proofs.Common.{rules, arith, ◌≡◌, length, map, sym, ◌∙◌, subst, vec_len}
use Rattle.std.proofs.lemmas.List.{length-map}
use Rattle.steal_pool.specs.Hand.{own_deque, IsFresh}
use Rattle.steal_pool.proofs.Pools.{Each, fresh_more, starts, opens, adds, turns, ready, idle_pushed, idle_taken}
use Rattle.steal_pool.proofs.hands.pool.Goals as goal

pub loop-number-preserved : goal.loop-number-preserved
loop-number-preserved g c =
    let long : c.loop-number.number ≡ length c.loop-number.hands.items = search rules in
    let items = c.in_ok-push.ensures.items in
    (search rules, subst (Each IsFresh) (sym items) (fresh_more _ _ _ long c.loop-number.invariant.1 c.in_ok-fresh.ensures.0))

pub loop-to-init : goal.loop-to-init
loop-to-init g c =
    let many : vec_len c.loop-number.hands ≡ length c.loop-number.hands.items = search rules in
    let end : c.loop-number.number ≡ c.args.workers = omega arith in (
      map own_deque c.loop-number.hands.items,
      length-map c.loop-number.hands.items own_deque
          ∙ (sym many ∙ (c.loop-number.invariant.0 ∙ end)),
      c.loop-number.invariant.0 ∙ end,
      starts _ c.loop-number.invariant.1,
    )

pub loop-from-preserved : goal.loop-from-preserved
loop-from-preserved g c =
    let inv = c.loop-from.invariant in
    let one = opens _ _ _ _ _ _ inv.3 c.in_ok-door.ensures.opens in
    (inv.0, inv.1, search rules, adds _ _ _ _ _ _ one.0 one.1 one.2 c.in_ok-add_at.ensures.adds)

pub loop-to-preserved : goal.loop-to-preserved
loop-to-preserved g c =
    let inv = c.loop-from.invariant in
    let end : c.loop-from.from ≡ c.args.workers = omega arith in
    let many : vec_len c.loop-from.hands ≡ length c.loop-from.hands.items = search rules in
    (inv.0, inv.1, inv.2, turns _ _ _ _ (end ∙ sym inv.1) (end ∙ (sym inv.2 ∙ many)) inv.3)

pub returns-clause-pool : goal.returns-clause-pool
returns-clause-pool g c =
    let inv = c.loop-to.invariant in
    let end : c.loop-to.to ≡ c.args.workers = omega arith in
    let many : vec_len c.loop-to.hands ≡ length c.loop-to.hands.items = search rules in
    ready inv.0 _ _ (end ∙ sym inv.1) (end ∙ (sym inv.2 ∙ many)) inv.3

pub returns-clause-pushed : goal.returns-clause-pushed
returns-clause-pushed g c = let inv = c.loop-to.invariant in idle_pushed _ _ _ _ _ inv.3

pub returns-clause-taken : goal.returns-clause-taken
returns-clause-taken g c = let inv = c.loop-to.invariant in idle_taken _ _ _ _ _ inv.3
