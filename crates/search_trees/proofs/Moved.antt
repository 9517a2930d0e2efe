-- The first fault of pieces is that of the same pieces in another order.
use Rattle.std.proofs.Common.{ℕ, List}
use Rattle.std.specs.List.Sorted.{IsPermutation}
use Rattle.std.proofs.lemmas.List.Sorted.{Contains-permutation}
use Rattle.search_trees.specs.declared.piece.Piece.{Piece}
use Rattle.search_trees.specs.declared.fault.GatherFault.{GatherFault}
use Rattle.search_trees.specs.declared.fault.GatherFault.TheVariants.{DoubledName, MissingName, StrayName, LowGoal, OutOfMemory}
use Rattle.search_trees.specs.Gathering.{HasLowLeaf, IsFirstGatherFault}
use Rattle.search_trees.proofs.Counting.{once_moves, complete_moves, doubled_moves, lacks_moves, stray_moves, tree_names_move}

low_moves : (low : ℕ) (xs ys : List Piece) → IsPermutation xs ys → HasLowLeaf low xs → HasLowLeaf low ys
low_moves low xs ys moved leaf =
    record { piece = leaf.piece; there = Contains-permutation xs ys leaf.piece moved leaf.there; below = leaf.below }

pub first_fault_moves : (low : ℕ) (xs ys : List Piece) (fault : GatherFault) → IsPermutation xs ys → IsFirstGatherFault low xs fault
    → IsFirstGatherFault low ys fault
first_fault_moves low xs ys DoubledName moved is = doubled_moves xs ys moved is
first_fault_moves low xs ys MissingName moved is = (once_moves xs ys moved is.0, lacks_moves xs ys moved is.1)
first_fault_moves low xs ys StrayName moved is = (once_moves xs ys moved is.0, complete_moves xs ys moved is.1, stray_moves xs ys moved is.2)
first_fault_moves low xs ys LowGoal moved is = (tree_names_move xs ys moved is.0, low_moves low xs ys moved is.1)
first_fault_moves low xs ys OutOfMemory moved is = tt
