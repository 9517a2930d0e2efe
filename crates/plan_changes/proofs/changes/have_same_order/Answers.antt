use Rattle.std.proofs.Common.{arith, sym}
use Rattle.plan_changes.specs.Changes.{names_in_order}
use Rattle.plan_changes.proofs.SlotOrder.{length-names_in_order, names-other, names-same}
use Rattle.plan_changes.proofs.changes.have_same_order.Goals as goal

pub returns-then-ne : goal.returns-then-ne
returns-then-ne c =
    let old = names_in_order c.args.old.now in
    let new = names_in_order c.args.new.now in
    sym (names-other old new c.loop-k.k _ _ c.name_at.ensures c.name_at-in-loop-k.ensures c.if-ne.ensures)

pub returns : goal.returns
returns c =
    let before = rw c.plan.ensures.value at c.len-count.ensures in
    let after = rw c.plan-2.ensures.value at c.len.ensures in
    let old = length-names_in_order c.args.old.now in
    let new = length-names_in_order c.args.new.now in
    sym (names-same (names_in_order c.args.old.now) (names_in_order c.args.new.now) (omega arith) (λ k inside. c.loop-k.invariant k (omega arith)))
