use Rattle.std.specs.Arc.{arc_slice_items}
use Rattle.search_trees.proofs.SharedLists.{more_items, all_items}
use Rattle.search_trees.proofs.shared_list.push_all.Goals as goal

pub loop-stretch-preserved : goal.loop-stretch-preserved
loop-stretch-preserved g c =
    more_items arc_slice_items c.args.stretches.now c.loop-stretch.stretch-index c.stretch-item.result c.args.items.now.items
    c.loop-stretch.items.items c.extend_from_slice.new.self.items
    c.loop-stretch-test.true c.stretch-item.is c.loop-stretch.invariant (rw c.as_slice.ensures.value at c.in_ok-extend_from_slice.ensures.items)

pub returns : goal.returns
returns g c =
    all_items arc_slice_items c.args.stretches.now c.loop-stretch.stretch-index c.args.items.now.items c.loop-stretch.items.items
    c.loop-stretch-test.false c.loop-stretch.invariant
