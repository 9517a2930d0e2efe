use Rattle.std.proofs.Common.{◌∙◌, ap, sym, arith, List, ℕ}
use Rattle.std.specs.Arc.{arc_slice_items}
use Rattle.std.specs.Ordering.{nat_cmp}
use Rattle.std.specs.Cmp.Lexicographic.{slice_cmp}
use Rattle.search_trees.proofs.StretchOrder.{compared, none_left, order_decided, undecided}
use Rattle.search_trees.proofs.order.compare.Goals as goal

pub returns-then-is_ne : goal.returns-then-is_ne
returns-then-is_ne c =
    order_decided _ _ _
    (compared arc_slice_items c.args.stretches.now c.loop-stretch.stretch-index c.min.result c.stretch-item.result c.args.own.now _ _ _ _ _ _
    c.loop-stretch-test.true
    c.stretch-item.is c.as_slice-items.ensures.value (omega arith) c.split_at.ensures.front c.split_at.ensures.back c.cmp-order.ensures
    c.loop-stretch.invariant)
    (sym c.is_ne.ensures ∙ c.if-is_ne.true)

pub loop-stretch-preserved : goal.loop-stretch-preserved
loop-stretch-preserved c =
    compared arc_slice_items c.args.stretches.now c.loop-stretch.stretch-index c.min.result c.stretch-item.result c.args.own.now _ _ _ _ _ _
    c.loop-stretch-test.true
    c.stretch-item.is c.as_slice-items.ensures.value (omega arith) c.split_at.ensures.front c.split_at.ensures.back c.cmp-order.ensures c.loop-stretch.invariant
    ∙ undecided _ _ (sym c.is_ne.ensures ∙ c.if-is_ne.false)

pub returns : goal.returns
returns c =
    c.cmp.ensures ∙ sym (c.loop-stretch.invariant ∙ ap (λ (l : List ℕ). slice_cmp nat_cmp l c.loop-stretch.rest.now)
    (none_left arc_slice_items c.args.stretches.now c.loop-stretch.stretch-index c.args.own.now c.loop-stretch-test.false))
