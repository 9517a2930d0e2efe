use Rattle.std.proofs.Common.{◌∙◌}
use Rattle.std.specs.Arc.{arc_slice_items}
use Rattle.search_trees.proofs.SharedLists.{copied_items}
use Rattle.search_trees.proofs.Stretches.{whole_copies}
use Rattle.search_trees.proofs.shared_list.SharedList.copy.Goals as goal

pub invariant_of-result-2 : goal.invariant_of-result-2
invariant_of-result-2 g c =
    let are = rw c.as_slice-3.ensures.value at c.in_ok-stretches-2.ensures.items in
    whole_copies arc_slice_items c.self.inside.stretches.items c.in_ok-stretches-2.stretches.items are c.self.invariant

pub returns : goal.returns
returns g c =
    let own = rw (c.as_slice-2.ensures.value, c.in_ok-own.ensures.items) at c.in_ok-extend_from_slice.ensures.items in
    let are = rw c.as_slice-3.ensures.value at c.in_ok-stretches-2.ensures.items in
    copied_items arc_slice_items c.self.inside.stretches.items c.in_ok-stretches-2.stretches.items c.self.inside.own.items
    c.extend_from_slice.new.self.items are own ∙ c.self.view_is
