use Rattle.std.proofs.Common.{◌≡◌, ◌≤◌, ℕ, List, ◌++◌, drop, length, min}
use Rattle.std.specs.List.{flat_map}
use Rattle.std.specs.Arc.{arc_slice_items}
use Rattle.std.specs.Ordering.{nat_cmp}
use Rattle.std.specs.Cmp.Lexicographic.{slice_cmp}
use Rattle.search_trees.proofs.order.compare_whole.Given as goal

-- what is left of both lists is to be compared
abbrev pub invariant-loop-k : goal.invariant-loop-k
invariant-loop-k l = (l.k ≤ min (length l.a) (length l.b))
    × ((x y : List ℕ) → slice_cmp nat_cmp (flat_map arc_slice_items l.a ++ x) (flat_map arc_slice_items l.b ++ y)
    ≡ slice_cmp nat_cmp (flat_map arc_slice_items (drop l.k l.a) ++ x) (flat_map arc_slice_items (drop l.k l.b) ++ y))
