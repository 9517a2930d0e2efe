use Rattle.std.proofs.Common.{◌≡◌, ◌++◌, take}
use Rattle.std.specs.List.{flat_map}
use Rattle.std.specs.Arc.{arc_slice_items}
use Rattle.search_trees.proofs.shared_list.push_all.Given as goal

abbrev pub invariant-loop-stretch : goal.invariant-loop-stretch
invariant-loop-stretch g l = l.items.items ≡ l.initial.items.items ++ flat_map arc_slice_items (take l.stretch-index l.stretches)
