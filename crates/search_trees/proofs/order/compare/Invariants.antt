use Rattle.std.proofs.Common.{◌≡◌, ◌++◌, drop}
use Rattle.std.specs.List.{flat_map}
use Rattle.std.specs.Arc.{arc_slice_items}
use Rattle.std.specs.Ordering.{nat_cmp}
use Rattle.std.specs.Cmp.Lexicographic.{slice_cmp}
use Rattle.search_trees.proofs.order.compare.Given as goal

-- what is left of both lists is to be compared
abbrev pub invariant-loop-stretch : goal.invariant-loop-stretch
invariant-loop-stretch l = slice_cmp nat_cmp (flat_map arc_slice_items l.stretches ++ l.own) l.list
    ≡ slice_cmp nat_cmp (flat_map arc_slice_items (drop l.stretch-index l.stretches) ++ l.own) l.rest
